-- What reading a client image answers.
use Rattle.std.proofs.Common.{◌≡◌, ℕ, ◌≤◌, List, length, drop, Some, Result, Ok, Err, sym, ap, subst, ◌∙◌}
use Rattle.std.specs.Prelude.{IfOk}
use Rattle.std.proofs.lemmas.List.{length-map}
use Rattle.som_model.specs.declared.syntax.Block.{Block}
use Rattle.som_model.specs.declared.syntax.Stmt.{Stmt}
use Rattle.som_model.specs.declared.program.ClientProgram.{ClientProgram}
use Rattle.som_model.specs.Bytes.{AreBytes}
use Rattle.som_model.specs.Steps.{◌>>=◌}
use Rattle.som_model.specs.Images.{client_image}
use Rattle.som_image_fields.specs.declared.fault.ImageFault.{ImageFault}
use Rattle.som_image_fields.specs.Fields.{Gives}
use Rattle.som_image_fields.proofs.Parts.{bind_ok}
use Rattle.som_image_fields.specs.declared.syntax.WireBlock.{WireBlock, fold-roll-WireBlock}
use Rattle.som_image_decode.specs.declared.directory.Directory.{Directory}
use Rattle.som_image_decode.specs.Naming.{library_directory}
use Rattle.som_image_decode.specs.NamedBlocks.{stmt_named_step, block_named_step, stmt_named, block_named}
use Rattle.som_image_classes.specs.NamedClasses.{face_named}
use Rattle.som_cliimage.specs.declared.form.ClientForm.{ClientForm}
use Rattle.som_cliimage.specs.declared.wire.WireProgram.{WireProgram}
use Rattle.som_cliimage.specs.Forms.{IsAsked, HasForm}
use Rattle.som_cliimage.specs.Reading.{image_at, wire_at}
use Rattle.som_cliimage.specs.Naming.{client_directory, program_named}
use Rattle.som_cliimage.specs.Programs.{ProgramNamesDiffer, SpellsProgram, client_at, client_from}
use Rattle.som_cliimage.specs.Limits.{IsWithinLimits}
use Rattle.som_cliimage.proofs.ProgramFields.{WireHasForm, image_takes, image_again, wire_takes, wire_again}
use Rattle.som_cliimage.proofs.NamedPrograms.{program_forth, program_back}
use Rattle.som_cliimage.proofs.Written.{program_within}

abbrev read : ClientProgram → Result ClientProgram ImageFault
read r = Ok r

same_program : (x y : ClientProgram) → read x ≡ read y → x ≡ y
same_program x y e = cc

-- what the bytes spell is their image where names differ
pub spelled_image : (r : ClientProgram) (bytes : List ℕ) → ProgramNamesDiffer r → SpellsProgram r bytes → client_image r ≡ Some bytes
spelled_image r bytes differ s =
    subst (λ (x : ClientProgram). ProgramNamesDiffer x → client_image x ≡ Some bytes) s.names
    (λ h. program_forth s.wire s.fits h ∙ ap (λ (b : List ℕ). Some b) s.spelled) differ

-- and it is within the limits
pub spelled_within : (r : ClientProgram) (bytes : List ℕ) → SpellsProgram r bytes → IsWithinLimits r
spelled_within r bytes s = subst IsWithinLimits s.names (program_within s.wire s.fits)

pub image_within : (r : ClientProgram) (bytes : List ℕ) → client_image r ≡ Some bytes → IsWithinLimits r
image_within r bytes e = spelled_within r bytes (program_back r bytes e)

read_one : (bytes : List ℕ) → AreBytes bytes → (r : ClientProgram) → client_at bytes ≡ Ok r → SpellsProgram r bytes
read_one bytes all r e =
    let w = bind_ok (wire_at bytes) (λ (w : WireProgram). read (program_named w)) r e in
    let t = wire_takes bytes all w.0 w.1 in
    record { wire = w.0; spelled = sym t.0; fits = t.1; names = same_program (program_named w.0) r w.2 }

pub spelled : (bytes : List ℕ) → AreBytes bytes → (result : Result ClientProgram ImageFault) → Gives result (client_at bytes) → IfOk result (λ r. SpellsProgram r bytes)
spelled bytes all (Ok r) given = read_one bytes all r given
spelled bytes all (Err fault) given = tt

pub found : (bytes : List ℕ) → AreBytes bytes → (result : Result ClientProgram ImageFault) → Gives result (client_at bytes) → IfOk result (λ r. ProgramNamesDiffer r → client_image r ≡ Some bytes)
found bytes all (Ok r) given = λ differ. spelled_image r bytes differ (read_one bytes all r given)
found bytes all (Err fault) given = tt

pub within : (bytes : List ℕ) → AreBytes bytes → (result : Result ClientProgram ImageFault) → Gives result (client_at bytes) → IfOk result IsWithinLimits
within bytes all (Ok r) given = spelled_within r bytes (read_one bytes all r given)
within bytes all (Err fault) given = tt

-- a program that bytes spell is read from them
pub spelled_again : (bytes : List ℕ) (r : ClientProgram) → SpellsProgram r bytes → client_at bytes ≡ Ok r
spelled_again bytes r s =
    ap client_at (sym s.spelled)
    ∙ ap (λ (x : Result WireProgram ImageFault). x >>= λ w. read (program_named w)) (wire_again s.wire s.fits)
    ∙ ap read s.names

pub only_spelled : (bytes : List ℕ) (result : Result ClientProgram ImageFault) → Gives result (client_at bytes) → (r : ClientProgram) → SpellsProgram r bytes → Gives result (Ok r)
only_spelled bytes result given r s = subst (λ (x : Result ClientProgram ImageFault). Gives result x) (spelled_again bytes r s) given

pub only : (bytes : List ℕ) (result : Result ClientProgram ImageFault) → Gives result (client_at bytes) → (r : ClientProgram) → client_image r ≡ Some bytes → Gives result (Ok r)
only bytes result given r e = only_spelled bytes result given r (program_back r bytes e)

-- a program is read from its image
pub client_again : (bytes : List ℕ) (r : ClientProgram) → client_image r ≡ Some bytes → client_at bytes ≡ Ok r
client_again bytes r e = spelled_again bytes r (program_back r bytes e)

-- bytes spell one program at most
pub one_program : (r s : ClientProgram) (bytes : List ℕ) → SpellsProgram r bytes → SpellsProgram s bytes → r ≡ s
one_program r s bytes a b = same_program r s (sym (spelled_again bytes r a) ∙ spelled_again bytes s b)

-- ---- from a place on

abbrev pub ProgramHasForm : ClientForm → ClientProgram → Type 0
ProgramHasForm form p = HasForm form (length p.base.classes) (length p.main.statements)

-- a block has as many statements as what it is named from
block_length : (d : Directory) (b : WireBlock) → length ((block_named d b).statements) ≡ length b.statements
block_length d b =
    ap (λ (x : Block). length x.statements) (fold-roll-WireBlock Stmt Block (stmt_named_step d) block_named_step (record { statements = b.statements }))
    ∙ length-map b.statements (stmt_named d)

-- a program has the numbers of what it is named from
named_has : (form : ClientForm) (w : WireProgram) → WireHasForm form w → ProgramHasForm form (program_named w)
named_has form w h = record {
  base = subst (IsAsked form.base_classes) (sym (length-map w.base (face_named (library_directory w.base).keys))) h.base;
  main = subst (IsAsked form.statements) (sym (block_length (client_directory w.base w.faces) w.main)) h.main;
}

wire_has : (form : ClientForm) (w : WireProgram) → ProgramHasForm form (program_named w) → WireHasForm form w
wire_has form w h = record {
  base = subst (IsAsked form.base_classes) (length-map w.base (face_named (library_directory w.base).keys)) h.base;
  main = subst (IsAsked form.statements) (block_length (client_directory w.base w.faces) w.main) h.main;
}

-- what is read from a place on is spelled there, with the numbers that are asked for
pub from_one : (form : ClientForm) (bytes : List ℕ) → AreBytes bytes → (place : ℕ) → place ≤ length bytes → (p : ClientProgram) → client_from form bytes place ≡ Ok p → SpellsProgram p (drop place bytes) × ProgramHasForm form p
from_one form bytes all place le p e =
    let w = bind_ok (image_at form bytes place) (λ (w : WireProgram). read (program_named w)) p e in
    let t = image_takes form bytes all place le w.0 w.1 in
    let is : program_named w.0 ≡ p = same_program (program_named w.0) p w.2 in
    (record { wire = w.0; spelled = sym t.0; fits = t.1; names = is }, subst (ProgramHasForm form) is (named_has form w.0 t.2))

-- and a program that is spelled so is read
pub from_again : (form : ClientForm) (bytes : List ℕ) (place : ℕ) (p : ClientProgram) → place ≤ length bytes → SpellsProgram p (drop place bytes) → ProgramHasForm form p → client_from form bytes place ≡ Ok p
from_again form bytes place p le s has =
    let numbers : WireHasForm form s.wire = wire_has form s.wire (subst (ProgramHasForm form) (sym s.names) has) in
    ap (λ (x : Result WireProgram ImageFault). x >>= λ w. read (program_named w)) (image_again form bytes place s.wire le (sym s.spelled) s.fits numbers) ∙ ap read s.names

pub from_spelled : (form : ClientForm) (bytes : List ℕ) → AreBytes bytes → (place : ℕ) → place ≤ length bytes → (result : Result ClientProgram ImageFault) → Gives result (client_from form bytes place) → IfOk result (λ p. SpellsProgram p (drop place bytes) × ProgramHasForm form p)
from_spelled form bytes all place le (Ok p) given = from_one form bytes all place le p given
from_spelled form bytes all place le (Err fault) given = tt

pub from_only : (form : ClientForm) (bytes : List ℕ) (place : ℕ) → place ≤ length bytes → (result : Result ClientProgram ImageFault) → Gives result (client_from form bytes place) → (p : ClientProgram) → SpellsProgram p (drop place bytes) → ProgramHasForm form p → Gives result (Ok p)
from_only form bytes place le result given p s has = subst (λ (x : Result ClientProgram ImageFault). Gives result x) (from_again form bytes place p le s has) given
