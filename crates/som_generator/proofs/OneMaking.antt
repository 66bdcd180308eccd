-- The generator's texts come to one thing at most.
use Rattle.std.proofs.Common.{◌≡◌, ℕ, ◌≤◌, List, [], ◌∷◌, Option, Some, None, Result, Ok, Err, refl, sym, ap, subst, ◌∙◌}
use Rattle.som_model.specs.declared.program.ClientProgram.{ClientProgram}
use Rattle.som_model.specs.declared.program.Interface.{Interface}
use Rattle.som_model.specs.declared.program.Release.{Release}
use Rattle.som_model.specs.Class.{interface_of}
use Rattle.som_model.specs.Compatible.{CompatBreach}
use Rattle.som_libimage.proofs.Decoded.{library_again}
use Rattle.som_cliimage.proofs.Decoded.{client_again}
use Rattle.som_sources.specs.declared.fault.TextFault.{TextFault}
use Rattle.som_sources.specs.declared.source.Source.{Source}
use Rattle.som_compile.specs.Compiling.{Compiles, CompilesClient, an_image, a_client_image}
use Rattle.som_compile.proofs.CompileLaws.{one_compiling}
use Rattle.som_compile.proofs.ClientLaws.{one_client}
use Rattle.som_generator.specs.declared.edition.Edition.TheVariants.{First, Second}
use Rattle.som_generator.specs.declared.fault.NotKept.{NotKept}
use Rattle.som_generator.specs.declared.fault.Unmade.{Unmade}
use Rattle.som_generator.specs.declared.fault.Unmade.TheVariants as unmade
use Rattle.som_generator.specs.declared.made.Client.{Client}
use Rattle.som_generator.specs.declared.made.Library.{Library}
use Rattle.som_generator.specs.declared.made.Made.{Made}
use Rattle.som_generator.specs.Making.{IsClient, IsLibrary, Makes, breach_of, client_refused, first_refused, made, not_kept, second_refused}
use Rattle.som_generator.specs.Steps.{ClientComes, ComparingComes, LibraryComes}
use Rattle.som_generator.specs.Texts.{client_texts, library_texts}

-- ---- one step after another

abbrev Coming : Type 0 → Type 1
Coming A = Result A Unmade → Type 0

-- what a step and the steps after it come to
data Then {A B : Type 0} (This : Coming A) (Next : A → Coming B) : Result B Unmade → Type 0 where
  stops : (u : Unmade) → This (Err u) → Then This Next (Err u)
  goes : (a : A) (r : Result B Unmade) → This (Ok a) → Next a r → Then This Next r

abbrev IsOne : {A : Type 0} → Coming A → Type 0
IsOne {A} This = (a b : Result A Unmade) → This a → This b → a ≡ b

module _ {A B : Type 0} (This : Coming A) (Next : A → Coming B) where
  abbrev failed : Unmade → Result A Unmade
  failed u = Err u

  abbrev came : A → Result A Unmade
  came a = Ok a

  same_fault : (u v : Unmade) → failed u ≡ failed v → u ≡ v
  same_fault u v e = cc

  same_value : (a b : A) → came a ≡ came b → a ≡ b
  same_value a b e = cc

  apart : {C : Type 0} (u : Unmade) (a : A) → failed u ≡ came a → C
  apart u a e = cc

  one_then : IsOne This → ((a : A) → IsOne (Next a)) → IsOne (Then This Next)
  one_then first next _ _ (stops u x) (stops v y) = ap (λ (w : Unmade). Err w) (same_fault u v (first (Err u) (Err v) x y))
  one_then first next _ _ (stops u x) (goes a r y z) = apart u a (first (Err u) (Ok a) x y)
  one_then first next _ _ (goes a r x z) (stops u y) = apart u a (first (Err u) (Ok a) y x)
  one_then first next _ _ (goes a r x z) (goes b s y w) =
      let same = same_value a b (first (Ok a) (Ok b) x y) in
      next b r s (subst (λ (k : A). Next k r) same z) w

-- ---- each step

abbrev imaged : List ℕ → Result (List ℕ) TextFault
imaged image = Ok image

abbrev untold : TextFault → Result (List ℕ) TextFault
untold w = Err w

same_image : (i j : List ℕ) → imaged i ≡ imaged j → i ≡ j
same_image i j e = cc

same_told : (v w : TextFault) → untold v ≡ untold w → v ≡ w
same_told v w e = cc

told_apart : {C : Type 0} (i : List ℕ) (w : TextFault) → imaged i ≡ untold w → C
told_apart i w e = cc

abbrev a_release : Release → Result Release Unmade
a_release r = Ok r

compiles_to : (ss : List Source) (l : Library) → IsLibrary ss l → Compiles ss (Ok l.image)
compiles_to ss l i = an_image l.release l.image i.stand i.image_is

same_library : (ss : List Source) (l m : Library) → IsLibrary ss l → IsLibrary ss m → l ≡ m
same_library ss l m x y =
    let images = same_image l.image m.image (one_compiling ss (Ok l.image) (Ok m.image) (compiles_to ss l x) (compiles_to ss m y)) in
    let again = sym (library_again l.image l.release x.image_is) ∙ library_again l.image m.release (y.image_is ∙ ap (λ (i : List ℕ). Some i) (sym images)) in
    let releases : l.release ≡ m.release = cc in
    ap (λ (r : Release). record { release = r; image = l.image }) releases ∙ ap (λ (i : List ℕ). record { release = m.release; image = i }) images

one_library : (ss : List Source) → IsOne (LibraryComes ss)
one_library ss (Ok l) (Ok m) x y = ap (λ (k : Library). Ok k) (same_library ss l m x y)
one_library ss (Ok l) (Err (unmade.Texts w)) x y = told_apart l.image w (one_compiling ss (Ok l.image) (Err w) (compiles_to ss l x) y)
one_library ss (Ok l) (Err (unmade.NotKept k)) x y = absurd y
one_library ss (Err (unmade.Texts v)) (Ok m) x y = told_apart m.image v (one_compiling ss (Ok m.image) (Err v) (compiles_to ss m y) x)
one_library ss (Err (unmade.Texts v)) (Err (unmade.Texts w)) x y = ap (λ (u : TextFault). Err (unmade.Texts u)) (same_told v w (one_compiling ss (Err v) (Err w) x y))
one_library ss (Err (unmade.Texts v)) (Err (unmade.NotKept k)) x y = absurd y
one_library ss (Err (unmade.NotKept k)) r x y = absurd x

client_to : (base : Interface) (ss : List Source) (c : Client) → IsClient base ss c → CompilesClient base ss (Ok c.image)
client_to base ss c i = a_client_image c.program c.image i.stand i.image_is

same_client : (base : Interface) (ss : List Source) (c d : Client) → IsClient base ss c → IsClient base ss d → c ≡ d
same_client base ss c d x y =
    let images = same_image c.image d.image (one_client base ss (Ok c.image) (Ok d.image) (client_to base ss c x) (client_to base ss d y)) in
    let again = sym (client_again c.image c.program x.image_is) ∙ client_again c.image d.program (y.image_is ∙ ap (λ (i : List ℕ). Some i) (sym images)) in
    let programs : c.program ≡ d.program = cc in
    ap (λ (p : ClientProgram). record { program = p; image = c.image }) programs ∙ ap (λ (i : List ℕ). record { program = d.program; image = i }) images

client_is_one : (base : Interface) (ss : List Source) → IsOne (ClientComes base ss)
client_is_one base ss (Ok c) (Ok d) x y = ap (λ (k : Client). Ok k) (same_client base ss c d x y)
client_is_one base ss (Ok c) (Err (unmade.Texts w)) x y = told_apart c.image w (one_client base ss (Ok c.image) (Err w) (client_to base ss c x) y)
client_is_one base ss (Ok c) (Err (unmade.NotKept k)) x y = absurd y
client_is_one base ss (Err (unmade.Texts v)) (Ok d) x y = told_apart d.image v (one_client base ss (Ok d.image) (Err v) (client_to base ss d y) x)
client_is_one base ss (Err (unmade.Texts v)) (Err (unmade.Texts w)) x y = ap (λ (u : TextFault). Err (unmade.Texts u)) (same_told v w (one_client base ss (Err v) (Err w) x y))
client_is_one base ss (Err (unmade.Texts v)) (Err (unmade.NotKept k)) x y = absurd y
client_is_one base ss (Err (unmade.NotKept k)) r x y = absurd x

abbrev kept_of : CompatBreach → NotKept
kept_of b = record { rule = b.rule; class = b.class; name = b.name; place = b.place }

abbrev some_breach : CompatBreach → Option CompatBreach
some_breach b = Some b

same_breach : (a b : CompatBreach) → some_breach a ≡ some_breach b → a ≡ b
same_breach a b e = cc

breach_apart : {C : Type 0} (b : CompatBreach) → None ≡ some_breach b → C
breach_apart b e = cc

comparing_is_one : (old new : Interface) → IsOne (ComparingComes old new)
comparing_is_one old new (Ok u) (Ok v) x y = refl
comparing_is_one old new (Ok u) (Err (unmade.Texts w)) x y = absurd y
comparing_is_one old new (Ok u) (Err (unmade.NotKept k)) x y = breach_apart (breach_of k) (sym x ∙ y)
comparing_is_one old new (Err (unmade.Texts v)) r x y = absurd x
comparing_is_one old new (Err (unmade.NotKept k)) (Ok u) x y = breach_apart (breach_of k) (sym y ∙ x)
comparing_is_one old new (Err (unmade.NotKept k)) (Err (unmade.Texts w)) x y = absurd y
comparing_is_one old new (Err (unmade.NotKept k)) (Err (unmade.NotKept j)) x y =
    ap (λ (b : CompatBreach). Err (unmade.NotKept (kept_of b))) (same_breach (breach_of k) (breach_of j) (sym x ∙ y))

-- ---- all steps

abbrev both_made : Library → Library → Client → Made
both_made a b c = record { first = a; second = b; client = c }

abbrev Ends : Made → Coming Made
Ends m r = r ≡ Ok m

ends_one : (m : Made) → IsOne (Ends m)
ends_one m r s x y = x ∙ sym y

module _ (n : ℕ) where
  abbrev Compared : Library → Library → Client → Coming Made
  Compared a b c = Then (ComparingComes (interface_of a.release) (interface_of b.release)) (λ (u : Unit {0}). Ends (both_made a b c))

  abbrev Compiled : Library → Library → Coming Made
  Compiled a b = Then (ClientComes (interface_of a.release) (client_texts n)) (Compared a b)

  abbrev Seconds : Library → Coming Made
  Seconds a = Then (LibraryComes (library_texts Second n)) (Compiled a)

  abbrev Steps : Coming Made
  Steps = Then (LibraryComes (library_texts First n)) Seconds

  in_steps : (r : Result Made Unmade) → Makes n r → Steps r
  in_steps _ (first_refused w x) = stops (unmade.Texts w) x
  in_steps _ (second_refused a w x y) = goes a (Err (unmade.Texts w)) x (stops (unmade.Texts w) y)
  in_steps _ (client_refused a b w x y z) = goes a (Err (unmade.Texts w)) x (goes b (Err (unmade.Texts w)) y (stops (unmade.Texts w) z))
  in_steps _ (not_kept a b c k x y z e) = goes a (Err (unmade.NotKept k)) x (goes b (Err (unmade.NotKept k)) y (goes c (Err (unmade.NotKept k)) z (stops (unmade.NotKept k) e)))
  in_steps _ (made m i) = goes m.first (Ok m) i.first (goes m.second (Ok m) i.second (goes m.client (Ok m) i.client (goes tt (Ok m) i.accepted.next.0 refl)))

  steps_one : IsOne Steps
  steps_one = one_then (LibraryComes (library_texts First n)) Seconds (one_library (library_texts First n)) (λ a.
      one_then (LibraryComes (library_texts Second n)) (Compiled a) (one_library (library_texts Second n)) (λ b.
      one_then (ClientComes (interface_of a.release) (client_texts n)) (Compared a b) (client_is_one (interface_of a.release) (client_texts n)) (λ c.
      one_then (ComparingComes (interface_of a.release) (interface_of b.release)) (λ u. Ends (both_made a b c)) (comparing_is_one (interface_of a.release) (interface_of b.release)) (λ u. ends_one (both_made a b c)))))

  pub one_making : (r s : Result Made Unmade) → Makes n r → Makes n s → r ≡ s
  one_making r s x y = steps_one r s (in_steps r x) (in_steps s y)
