use Rattle.std.proofs.Common.{◌<◌, ◌^◌}
use Rattle.std.specs.Int.{w8, w16, w32}
use Rattle.som_image_fields.specs.Spelling as spelling
use Rattle.som_image_fields.specs.Spelling.{FitsText, FitsKind, FitsSig, FitsEntry, FitsFace}
use Rattle.som_image_fields.specs.Reading.{number_at, text_at, kind_at, sig_at, entry_at, face_at}
use Rattle.som_image_fields.proofs.NumberFields.{byte_field, short_field, long_field, text_field}
use Rattle.som_image_fields.proofs.TypeFields.{kind_field, sig_field}
use Rattle.som_image_fields.proofs.EntryFields.{entry_field}
use Rattle.som_image_fields.proofs.FaceFields.{face_field}
use Rattle.som_image_fields.proofs.Apart.{apart, method_apart}
use Rattle.som_image_fields.proofs.laws.no_spelling_begins_another.Goals as goal

pub returns-clause-byte : goal.returns-clause-byte
returns-clause-byte c = apart (number_at w8) (spelling.number w8) (λ n. n < 2 ^ 8) byte_field

pub returns-clause-short : goal.returns-clause-short
returns-clause-short c = apart (number_at w16) (spelling.number w16) (λ n. n < 2 ^ 16) short_field

pub returns-clause-long : goal.returns-clause-long
returns-clause-long c = apart (number_at w32) (spelling.number w32) (λ n. n < 2 ^ 32) long_field

pub returns-clause-text : goal.returns-clause-text
returns-clause-text c = apart text_at spelling.text FitsText text_field

pub returns-clause-kind : goal.returns-clause-kind
returns-clause-kind c = λ classes is_result small. apart (kind_at classes is_result) spelling.kind (FitsKind classes is_result) (kind_field classes is_result small)

pub returns-clause-sig : goal.returns-clause-sig
returns-clause-sig c = λ classes small. apart (sig_at classes) spelling.sig (FitsSig classes) (sig_field classes small)

pub returns-clause-entry : goal.returns-clause-entry
returns-clause-entry c = λ classes small. apart (entry_at classes) spelling.entry (FitsEntry classes) (entry_field classes small)

pub returns-clause-face : goal.returns-clause-face
returns-clause-face c = λ classes small. apart (face_at classes) spelling.face (FitsFace classes) (face_field classes small)

pub returns-clause-method : goal.returns-clause-method
returns-clause-method c = method_apart
