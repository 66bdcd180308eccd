-- What naming a client program asks for.
use Rattle.std.proofs.Common.{◌≡◌, ℕ, ◌+◌, ◌<◌, ◌^◌, List, length, sym, ap, subst, ◌∙◌, arith}
use Rattle.std.specs.Prelude.{All}
use Rattle.som_image_fields.specs.declared.face.WireFace.{WireFace}
use Rattle.som_image_fields.specs.declared.method.Ranges.{Ranges}
use Rattle.som_image_fields.specs.declared.selects.WireSelects.{WireSelects}
use Rattle.som_image_fields.specs.Spelling.{FitsFace}
use Rattle.som_image_decode.specs.declared.directory.Directory.{Directory}
use Rattle.som_image_decode.specs.Naming.{ranges_in}
use Rattle.som_image_classes.specs.SpelledClasses.{FitsFaces, FitsParts}
use Rattle.som_image_classes.specs.NamedClasses.{AreSelectsOf}
use Rattle.som_cliimage.specs.declared.wire.WireProgram.{WireProgram}
use Rattle.som_cliimage.specs.Reading.{client_ranges}
use Rattle.som_cliimage.specs.Spelling.{FitsMain, FitsOwnFaces, FitsProgram}
use Rattle.som_cliimage.specs.Naming.{client_directory}
use Rattle.som_cliimage.proofs.NamedPrograms.{many_keys, client_ranges_known}

pub few_own : (base own : List WireFace) → FitsFaces base → FitsOwnFaces base own → length base + 4 + length own < 2 ^ 16
few_own base own b o = omega (arith, b.1, o.1)

module _ (base own : List WireFace) (d : Directory) (made : d ≡ client_directory base own) where
  -- the directory has the ranges by which the image is read
  pub same_ranges : client_ranges base own ≡ ranges_in d
  same_ranges = sym (ap ranges_in made ∙ client_ranges_known base own)

  pub own_fit : FitsOwnFaces base own → All (FitsFace (length d.keys)) own
  own_fit fits = subst (λ (n : ℕ). All (FitsFace n) own) (sym (ap (λ (x : Directory). length x.keys) made ∙ many_keys base own)) fits.2

  pub selects_known : (ss : List WireSelects) → AreSelectsOf (client_ranges base own) ss → AreSelectsOf (ranges_in d) ss
  selects_known ss known = subst (λ (x : Ranges). AreSelectsOf x ss) same_ranges known

module _ (w : WireProgram) (fits : FitsProgram w) (d : Directory) (made : d ≡ client_directory w.base w.faces) where
  pub parts_fit : FitsParts (ranges_in d) w.faces w.parts
  parts_fit = subst (λ (x : Ranges). FitsParts x w.faces w.parts) (same_ranges w.base w.faces d made) fits.parts

  pub main_fits : FitsMain (ranges_in d) w.main
  main_fits = subst (λ (x : Ranges). FitsMain x w.main) (same_ranges w.base w.faces d made) fits.main
