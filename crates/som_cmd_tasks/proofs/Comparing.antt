-- What clients were compiled against is compared with a library, client by client.
use Rattle.std.proofs.Common.{◌≡◌, ℕ, ◌+◌, ◌<◌, ◌≤◌, List, [], ◌∷◌, map, length, take, drop, get_or, Option, Some, None, Result, Ok, Err, IfOk, refl, sym, ap, subst, ◌∙◌}
use Rattle.std.specs.Prelude.{All}
use Rattle.std.proofs.lemmas.List.{drop_all}
use Rattle.som_model.specs.declared.class.ClassDecl.{ClassDecl}
use Rattle.som_model.specs.declared.class.ClassFace.{ClassFace}
use Rattle.som_model.specs.declared.program.ClientProgram.{ClientProgram}
use Rattle.som_model.specs.declared.program.Interface.{Interface}
use Rattle.som_model.specs.declared.program.Release.{Release}
use Rattle.som_model.specs.Class.{interface_of}
use Rattle.som_model.specs.Compatible.{CompatBreach, first_break}
use Rattle.som_model.specs.Conforming.{ProgramOk, ReleaseOk}
use Rattle.som_model.specs.Steps.{◌>>=◌}
use Rattle.som_cliimage.specs.Limits as clients_within
use Rattle.som_libimage.specs.Limits as libraries_within
use Rattle.som_compat.specs.Conditions.{Conforms}
use Rattle.som_link_check.proofs.Pairs.{base_conforms}
use Rattle.som_link_limits.proofs.Classes.{program_counts}
use Rattle.som_cmd_steps.specs.declared.stop.Refusal.{Refusal}
use Rattle.som_cmd_steps.specs.declared.stop.CommandStop.{CommandStop}
use Rattle.som_cmd_steps.specs.declared.stop.CommandStop.TheVariants as stops
use Rattle.som_cmd_steps.specs.Lines.{not_kept}
use Rattle.som_cmd_steps.specs.Steps.{Follows, Stops}
use Rattle.som_cmd_steps.proofs.ImageLaws.{stops_first}
use Rattle.som_cmd_steps.proofs.InTurn.{next_of, taken_all, taken_more}
use Rattle.som_cmd_steps.proofs.ReleaseLaws.{may_be}
use Rattle.som_cmd_tasks.specs.Groups.{AllKept, each_kept, kept_or}

-- ---- one client

pub keeps_base : (l : List ℕ) (o : Option CompatBreach) → None ≡ o → Follows (Ok tt) (kept_or l o)
keeps_base l o e = ap (kept_or l) (sym e)

pub breaks_base : (l : List ℕ) (o : Option CompatBreach) (b : CompatBreach) (r : Refusal) → Some b ≡ o → r ≡ not_kept l b → Follows {A = Unit {0}} (Err (stops.Refused r)) (kept_or l o)
breaks_base l o b r e is = ap (kept_or l) (sym e) ∙ ap (λ (x : Refusal). Err x) (sym is)

-- ---- one after the other

module _ (l : List ℕ) (shown : Interface) (ps : List ClientProgram) where
  -- the library keeps what those before a place were compiled against
  abbrev pub KeptSoFar : ℕ → Type 0
  KeptSoFar i = each_kept l shown (drop i ps) ≡ each_kept l shown ps

  pub kept_none : KeptSoFar 0
  kept_none = refl

  pub kept_all : (i : ℕ) → length ps ≤ i → KeptSoFar i → each_kept l shown ps ≡ Ok tt
  kept_all i over so = sym so ∙ ap (each_kept l shown) (drop_all i ps over)

  module _ (i : ℕ) (p : ClientProgram) (lt : i < length ps) (is : p ≡ get_or ps i p) where
    one_before : KeptSoFar i → (kept_or l (first_break p.base shown) >>= λ kept. each_kept l shown (drop (i + 1) ps)) ≡ each_kept l shown ps
    one_before so = ap (each_kept l shown) (sym (next_of ps i p lt is)) ∙ so

    pub kept_more : (u : Unit {0}) → KeptSoFar i → kept_or l (first_break p.base shown) ≡ Ok u → KeptSoFar (i + 1)
    kept_more u so f = ap (λ (x : Result (Unit {0}) Refusal). x >>= λ kept. each_kept l shown (drop (i + 1) ps)) (sym f) ∙ one_before so

    pub kept_stops : (stop : CommandStop) → KeptSoFar i → Follows {A = Unit {0}} (Err stop) (kept_or l (first_break p.base shown)) → Follows {A = Unit {0}} (Err stop) (each_kept l shown ps)
    kept_stops stop so f = subst (Stops stop) (one_before so) (stops_first stop (kept_or l (first_break p.base shown)) (λ kept. each_kept l shown (drop (i + 1) ps)) f)

-- ---- the interface of the library

abbrev faces_of : Release → List ClassFace
faces_of r = map (λ (c : ClassDecl). c.face) r.classes

shown_is : (r : Release) (shown : Interface) → shown.classes ≡ faces_of r → shown ≡ interface_of r
shown_is r shown same = ap (λ (faces : List ClassFace). let i : Interface = record { classes = faces } in i) same

pub shown_conforms : (r : Release) (shown : Interface) → shown.classes ≡ faces_of r → ReleaseOk r → libraries_within.IsWithinLimits r → Conforms shown
shown_conforms r shown same ok within = subst Conforms (sym (shown_is r shown same)) (may_be r ok within)

pub bases_conform : (ps : List ClientProgram) → All (λ (p : ClientProgram). ProgramOk p) ps → All (λ (p : ClientProgram). clients_within.IsWithinLimits p) ps → All (λ (p : ClientProgram). Conforms p.base) ps
bases_conform ps ok within k d lt = base_conforms (get_or ps k d) (ok k d lt) (program_counts (get_or ps k d) (within k d lt))

pub shown_follows : (l : List ℕ) (r : Release) (shown : Interface) (ps : List ClientProgram) (result : Result (Unit {0}) CommandStop) → shown.classes ≡ faces_of r → Follows result (each_kept l shown ps) → Follows result (each_kept l (interface_of r) ps)
shown_follows l r shown ps result same f = subst (λ (i : Interface). Follows result (each_kept l i ps)) (shown_is r shown same) f

pub shown_keeps : (r : Release) (shown : Interface) (ps : List ClientProgram) (result : Result (Unit {0}) CommandStop) → shown.classes ≡ faces_of r → IfOk result (λ _. AllKept shown ps) → IfOk result (λ _. AllKept (interface_of r) ps)
shown_keeps r shown ps result same k = subst (λ (i : Interface). IfOk result (λ _. AllKept i ps)) (shown_is r shown same) k
