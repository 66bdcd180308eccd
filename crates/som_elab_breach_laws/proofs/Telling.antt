-- What texts are refused with is the first of what is in their way.
use Rattle.std.proofs.Common.{◌≡◌, List, [], codes, flat_map, Option, Some, None, Result, Ok, Err, refl, sym, ap, ◌∙◌, subst}
use Rattle.som_model.specs.declared.key.Module.{Module}
use Rattle.som_model.specs.declared.key.Module.TheVariants as modules
use Rattle.som_model.specs.declared.syntax.Block.{Block}
use Rattle.som_model.specs.declared.class.ClassDecl.{ClassDecl}
use Rattle.som_model.specs.declared.program.ClientProgram.{ClientProgram}
use Rattle.som_model.specs.declared.program.Interface.{Interface}
use Rattle.som_model.specs.declared.program.Release.{Release}
use Rattle.som_model.specs.Lists.{first, or_else}
use Rattle.som_model.specs.Rules.{RuleBreach}
use Rattle.som_model.specs.Steps.{◌>>=◌}
use Rattle.som_model.specs.Typing.{in_main}
use Rattle.som_ast.specs.declared.interface.IdlInterface.{IdlInterface}
use Rattle.som_ast.specs.declared.body.BodyText.{BodyText}
use Rattle.som_ast.specs.declared.body.BlockText.{BlockText}
use Rattle.som_sema.specs.Building.{texts_breach}
use Rattle.som_elab_methods.specs.Bodies.{text_s14}
use Rattle.som_elab_methods.specs.Limits.{Passed, class_limits}
use Rattle.som_elab_body.specs.Statements.{Told, elaborated_block}
use Rattle.som_elab.specs.Blocks.{Limit, Refusal, Rule, elaborated_each, keeping, obeying, refusal, refused_at}
use Rattle.som_elab.specs.Elaboration.{among_over, classes_passed, elaborated_classes, elaborated_program, elaborated_release, nothing_before}
use Rattle.som_elab_breach_laws.specs.Telling.{AreDeclaredWell, HaveBodies, IsFirstTold, IsFirstToldOfProgram, drafts, of_body, of_classes, of_count, of_declarations, of_limit, of_main, of_method, of_text, s13_of}
use Rattle.som_elab_breach_laws.proofs.Bodies.{body_first, first_body}
use Rattle.som_elab_breach_laws.proofs.Firsts.{first_flat, flat_first, flat_none, none_flat}

one_error : {A E : Type 0} (x : Result A E) (d e : E) → x ≡ Err d → x ≡ Err e → d ≡ e
one_error x d e f g = let same = sym f ∙ g in cc

module _ (m : Module) (base : Interface) (is : List IdlInterface) (bs : List BodyText) where
  abbrev T : Refusal → Type 0
  T r = IsFirstTold m base is bs r

  -- the steps behind the limits, behind S14, behind S13, behind the declarations
  abbrev blocks : Result (List ClassDecl) Refusal
  blocks = elaborated_each (among_over m base is) m bs (drafts m base is bs)

  abbrev limits : Option Passed
  limits = first (flat_map class_limits (drafts m base is bs))

  abbrev fourteen : Option RuleBreach
  fourteen = first (flat_map (text_s14 bs) (drafts m base is bs))

  abbrev thirteen : Option RuleBreach
  thirteen = first (flat_map (s13_of m base is bs) bs)

  by_limits : (q : Option Passed) → limits ≡ q → (r : Refusal) → HaveBodies m base is bs → keeping q blocks ≡ Err r → T r
  by_limits (Some p) f r have e = subst T (one_error (keeping (Some p) blocks) (Limit p) r refl e) (of_limit p have (first_flat class_limits (drafts m base is bs) p f))
  by_limits None f r have e = of_body r have (none_flat class_limits (drafts m base is bs) f) (first_body (among_over m base is) m bs (drafts m base is bs) r e)

  by_fourteen : (q : Option RuleBreach) → fourteen ≡ q → (r : Refusal) → AreDeclaredWell m base is bs → thirteen ≡ None → obeying q (keeping limits blocks) ≡ Err r → T r
  by_fourteen (Some b) f r well t e = subst T (one_error (obeying (Some b) (keeping limits blocks)) (Rule b) r refl e) (of_method b well (none_flat (s13_of m base is bs) bs t) (first_flat (text_s14 bs) (drafts m base is bs) b f))
  by_fourteen None f r well t e =
      by_limits limits refl r (record { declared = well; s13 = none_flat (s13_of m base is bs) bs t; s14 = none_flat (text_s14 bs) (drafts m base is bs) f }) e

  by_thirteen : (q : Option RuleBreach) → thirteen ≡ q → (r : Refusal) → AreDeclaredWell m base is bs → obeying (or_else q fourteen) (keeping limits blocks) ≡ Err r → T r
  by_thirteen (Some b) f r well e = subst T (one_error (obeying (or_else (Some b) fourteen) (keeping limits blocks)) (Rule b) r refl e) (of_text b well (first_flat (s13_of m base is bs) bs b f))
  by_thirteen None f r well e = by_fourteen fourteen refl r well f e

  by_rules : (q : Option RuleBreach) → texts_breach m base is ≡ q → (r : Refusal) → classes_passed m is ≡ None → obeying q (obeying (or_else thirteen fourteen) (keeping limits blocks)) ≡ Err r → T r
  by_rules (Some b) f r few e = subst T (one_error (obeying (Some b) (obeying (or_else thirteen fourteen) (keeping limits blocks))) (Rule b) r refl e) (of_declarations b few f)
  by_rules None f r few e = by_thirteen thirteen refl r (record { few = few; rules = f }) e

  by_count : (q : Option Passed) → classes_passed m is ≡ q → (r : Refusal) → keeping q (obeying (texts_breach m base is) (obeying (or_else thirteen fourteen) (keeping limits blocks))) ≡ Err r → T r
  by_count (Some p) f r e = subst T (one_error (keeping (Some p) (obeying (texts_breach m base is) (obeying (or_else thirteen fourteen) (keeping limits blocks)))) (Limit p) r refl e) (of_count p f)
  by_count None f r e = by_rules (texts_breach m base is) refl r f e

  pub first_told : (r : Refusal) → elaborated_classes m base is bs ≡ Err r → IsFirstTold m base is bs r
  first_told r e = by_count (classes_passed m is) refl r e

  -- what is told where it is the first

  after_count : (r : Refusal) → classes_passed m is ≡ None → obeying (texts_breach m base is) (obeying (or_else thirteen fourteen) (keeping limits blocks)) ≡ Err r → elaborated_classes m base is bs ≡ Err r
  after_count r few e = ap (λ (q : Option Passed). keeping q (obeying (texts_breach m base is) (obeying (or_else thirteen fourteen) (keeping limits blocks)))) few ∙ e

  after_rules : (r : Refusal) → AreDeclaredWell m base is bs → obeying (or_else thirteen fourteen) (keeping limits blocks) ≡ Err r → elaborated_classes m base is bs ≡ Err r
  after_rules r well e = after_count r well.few (ap (λ (q : Option RuleBreach). obeying q (obeying (or_else thirteen fourteen) (keeping limits blocks))) well.rules ∙ e)

  after_thirteen : (r : Refusal) → AreDeclaredWell m base is bs → thirteen ≡ None → obeying fourteen (keeping limits blocks) ≡ Err r → elaborated_classes m base is bs ≡ Err r
  after_thirteen r well t e = after_rules r well (ap (λ (q : Option RuleBreach). obeying (or_else q fourteen) (keeping limits blocks)) t ∙ e)

  after_bodies : (r : Refusal) → HaveBodies m base is bs → keeping limits blocks ≡ Err r → elaborated_classes m base is bs ≡ Err r
  after_bodies r have e = after_thirteen r have.declared (flat_none (s13_of m base is bs) bs have.s13)
      (ap (λ (q : Option RuleBreach). obeying q (keeping limits blocks)) (flat_none (text_s14 bs) (drafts m base is bs) have.s14) ∙ e)

  pub tells_first : (r : Refusal) → IsFirstTold m base is bs r → elaborated_classes m base is bs ≡ Err r
  tells_first r (of_count p f) = ap (λ (q : Option Passed). keeping q (obeying (texts_breach m base is) (obeying (or_else thirteen fourteen) (keeping limits blocks)))) f
  tells_first r (of_declarations b few f) = after_count (Rule b) few (ap (λ (q : Option RuleBreach). obeying q (obeying (or_else thirteen fourteen) (keeping limits blocks))) f)
  tells_first r (of_text b well f) = after_rules (Rule b) well
      (ap (λ (q : Option RuleBreach). obeying (or_else q fourteen) (keeping limits blocks)) (flat_first (s13_of m base is bs) bs b f))
  tells_first r (of_method b well none f) = after_thirteen (Rule b) well (flat_none (s13_of m base is bs) bs none)
      (ap (λ (q : Option RuleBreach). obeying q (keeping limits blocks)) (flat_first (text_s14 bs) (drafts m base is bs) b f))
  tells_first r (of_limit p have f) = after_bodies (Limit p) have (ap (λ (q : Option Passed). keeping q blocks) (flat_first class_limits (drafts m base is bs) p f))
  tells_first r (of_body s have none f) = after_bodies s have
      (ap (λ (q : Option Passed). keeping q blocks) (flat_none class_limits (drafts m base is bs) none) ∙ body_first (among_over m base is) m bs (drafts m base is bs) s f)

-- ---- libraries

abbrev release_steps : Result (List ClassDecl) Refusal → Result Release Refusal
release_steps x = x >>= λ cs. Ok (record { classes = cs })

refused_release : (x : Result (List ClassDecl) Refusal) (r : Refusal) → release_steps x ≡ Err r → x ≡ Err r
refused_release (Ok cs) r e = absurd (cc)
refused_release (Err s) r e = ap (λ z. Err z) (one_error (release_steps (Err s)) s r refl e)

pub first_of_library : (is : List IdlInterface) (bs : List BodyText) (r : Refusal) → elaborated_release is bs ≡ Err r → IsFirstTold modules.Library nothing_before is bs r
unfolding elaborated_release
first_of_library is bs r e = first_told modules.Library nothing_before is bs r (refused_release (elaborated_classes modules.Library nothing_before is bs) r e)

pub library_of_first : (is : List IdlInterface) (bs : List BodyText) (r : Refusal) → IsFirstTold modules.Library nothing_before is bs r → elaborated_release is bs ≡ Err r
unfolding elaborated_release
library_of_first is bs r f = ap release_steps (tells_first modules.Library nothing_before is bs r f)

-- ---- clients

module _ (base : Interface) (is : List IdlInterface) (bs : List BodyText) (main : BlockText) where
  abbrev program : List ClassDecl → Block → ClientProgram
  program cs block = record { base = base; classes = cs; main = block }

  abbrev steps : Result (List ClassDecl) Refusal → Told Block → Result ClientProgram Refusal
  steps x t = x >>= λ cs. refused_at (codes "main") (codes "-") t >>= λ block. Ok (program cs block)

  abbrev main_told : Told Block
  main_told = elaborated_block (among_over modules.Client base is) in_main main []

  abbrev own : Result (List ClassDecl) Refusal
  own = elaborated_classes modules.Client base is bs

  none_told : (cs : List ClassDecl) → own ≡ Ok cs → (r : Refusal) → IsFirstTold modules.Client base is bs r → ⊥
  none_told cs f r t = let e = sym f ∙ tells_first modules.Client base is bs r t in cc

  by_main : (cs : List ClassDecl) → own ≡ Ok cs → (t : Told Block) → main_told ≡ t → (r : Refusal) → steps (Ok cs) t ≡ Err r → IsFirstToldOfProgram base is bs main r
  by_main cs f (Ok block) g r e = absurd (cc)
  by_main cs f (Err breach) g r e =
      subst (λ (z : Refusal). IsFirstToldOfProgram base is bs main z) (one_error (steps (Ok cs) (Err breach)) (refusal (codes "main") (codes "-") breach) r refl e) (of_main breach (none_told cs f) g)

  by_classes : (x : Result (List ClassDecl) Refusal) → own ≡ x → (r : Refusal) → steps x main_told ≡ Err r → IsFirstToldOfProgram base is bs main r
  by_classes (Ok cs) f r e = by_main cs f main_told refl r e
  by_classes (Err s) f r e = of_classes r (first_told modules.Client base is bs r (f ∙ ap (λ z. Err z) (one_error (steps (Err s) main_told) s r refl e)))

  pub first_of_client : (r : Refusal) → elaborated_program base is bs main ≡ Err r → IsFirstToldOfProgram base is bs main r
  unfolding elaborated_program
  first_of_client r e = by_classes own refl r e

  main_refused : (x : Result (List ClassDecl) Refusal) → own ≡ x → (r : Refusal) → ((s : Refusal) → IsFirstTold modules.Client base is bs s → ⊥) → refused_at (codes "main") (codes "-") main_told ≡ Err r → steps x main_told ≡ Err r
  main_refused (Ok cs) f r none e = ap (λ (y : Result Block Refusal). y >>= λ block. Ok (program cs block)) e
  main_refused (Err s) f r none e = absurd (none s (first_told modules.Client base is bs s f))

  pub client_of_first : (r : Refusal) → IsFirstToldOfProgram base is bs main r → elaborated_program base is bs main ≡ Err r
  unfolding elaborated_program
  client_of_first r (of_classes s f) = ap (λ (x : Result (List ClassDecl) Refusal). steps x main_told) (tells_first modules.Client base is bs s f)
  client_of_first r (of_main breach none f) = main_refused own refl (refusal (codes "main") (codes "-") breach) none (ap (λ (t : Told Block). refused_at (codes "main") (codes "-") t) f)
