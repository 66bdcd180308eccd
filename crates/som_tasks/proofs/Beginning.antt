-- Clients before the first turn.
use Rattle.std.proofs.Common.{◌≡◌, ℕ, zero, suc, ◌+◌, ◌<◌, ◌⊎◌, inl, inr, Bool, List, [], ◌∷◌, ◌++◌, length, replicate, Option, Some, refl, sym, ap, subst, ◌∙◌, arith}
use Rattle.std.specs.Prelude.{slice_get}
use Rattle.std.specs.List.{sum_by}
use Rattle.std.proofs.lemmas.List.{length-replicate, length_push}
use Rattle.std.proofs.lemmas.List.Sums.{sum_by-cons}
use Rattle.std.proofs.lemmas.Option.{slice_get_within}
use Rattle.som_model.specs.declared.key.ClassKey.{ClassKey}
use Rattle.som_model.specs.declared.syntax.Block.{Block}
use Rattle.som_semantics.specs.Means.{means_in}
use Rattle.som_semantics.specs.World.{World}
use Rattle.som_meta.specs.Numbering.{Numbering}
use Rattle.som_objects.specs.Objects.{Objects}
use Rattle.som_interp_state.specs.Settings.{Linked}
use Rattle.som_interp_task.specs.declared.advanced.Advanced.{Advanced}
use Rattle.som_interp_task.specs.declared.advanced.Advanced.TheVariants as answers
use Rattle.som_tasks.specs.declared.client.Client.{Client as Held}
use Rattle.som_tasks.specs.Started.{AreStarted, IsStarted}
use Rattle.som_tasks.specs.Stage.{AreAfter, IsAfter, made_by, serials_of}
use Rattle.som_tasks.specs.Taken.{client_at, clients_of}
use Rattle.som_tasks.proofs.Places.{at_place, push_cases, same_some}
use Rattle.som_tasks.proofs.Sparing.{none_made}

-- what stands among so many equal items
replicated : {A : Type 0} (n i : ℕ) (x y : A) → slice_get (replicate n x) i ≡ Some y → y ≡ x
replicated zero i x y at = absurd (let z = at in cc)
replicated (suc n) zero x y at = sym (same_some x y at)
replicated (suc n) (suc i) x y at = replicated n i x y at

none_summed : (helds : List Held) → ((i : ℕ) (held : Held) → slice_get helds i ≡ Some held → made_by held ≡ 0) → sum_by made_by helds ≡ 0
none_summed [] none = refl
none_summed (h ∷ hs) none =
    let first : made_by h ≡ 0 = none 0 h refl in
    let rest : sum_by made_by hs ≡ 0 = none_summed hs (λ i held at. none (suc i) held at) in
    let both : sum_by made_by (h ∷ hs) ≡ made_by h + sum_by made_by hs = sum_by-cons made_by h hs in
    omega (arith, first, rest, both)

module _ {A : Type 0} (world : A → World) (linked : A → Linked) (known : A → Numbering) (main : A → Block) (made : A → ClassKey → Bool) (kernels : List A) (helds : List Held) (os : Objects) (started : AreStarted world linked known main made kernels helds) where
  abbrev going : List Advanced
  going = replicate (length helds) answers.Going

  begins : (i : ℕ) (kernel : A) (held : Held) (end : Advanced) → slice_get kernels i ≡ Some kernel → slice_get helds i ≡ Some held → slice_get going i ≡ Some end
      → IsAfter linked known main made (length os) (clients_of world main kernels i) i 0 os kernel held end
  begins i kernel held end at at_held at_end =
      let s = started.each i kernel held at at_held in
      record {
        means = λ units. ap (λ (k : Option A). client_at world main k units) at ∙ ap (λ (w : World). means_in w (main kernel) units) (sym s.answers);
        prefix = s.prefix;
        live = s.live;
        end_is = replicated (length helds) i answers.Going end at_end;
        granted = λ live. s.granted;
        begun = λ live. s.begun;
        stands = λ live. s.stands os;
        objects = ap (λ (xs : List ℕ). length xs) s.serials;
        own = λ n m. absurd (none_made (serials_of held) n s.serials m);
      }

  no_serials : (i : ℕ) (held : Held) → slice_get helds i ≡ Some held → serials_of held ≡ []
  no_serials i held there =
      let within : i < length helds = slice_get_within helds i held there in
      let count : length helds ≡ length kernels = started.count in
      let k = at_place kernels i (omega (arith, within, count)) in
      (started.each i k.0 held k.1 there).serials

  pub all_begin : AreAfter linked known main made (length os) (clients_of world main kernels) [] os kernels helds going
  all_begin = record {
    all_held = started.count;
    all_ends = length-replicate (length helds) answers.Going ∙ started.count;
    each = λ i kernel held end at at_held at_end. begins i kernel held end at at_held at_end;
    apart = λ i j one other ne ai aj n m k. none_made (serials_of one) n (no_serials i one ai) m;
    count = (let none : sum_by made_by helds ≡ 0 = none_summed helds (λ i held at. ap (λ (xs : List ℕ). length xs) (no_serials i held at)) in omega (arith, none));
  }

-- ---- one client after the other

-- the first so many kernels have clients
pub record SoFar {A : Type 0} (world : A → World) (linked : A → Linked) (known : A → Numbering) (main : A → Block) (made : A → ClassKey → Bool) (kernels : List A) (count : ℕ) (helds : List Held) : Type 0 where
  pub held : length helds ≡ count
  pub each : (i : ℕ) (kernel : A) (held : Held) → slice_get kernels i ≡ Some kernel → slice_get helds i ≡ Some held → IsStarted world linked known main made i kernel held

module _ {A : Type 0} (world : A → World) (linked : A → Linked) (known : A → Numbering) (main : A → Block) (made : A → ClassKey → Bool) (kernels : List A) where
  pub so_far_none : SoFar world linked known main made kernels 0 []
  so_far_none = record { held = refl; each = λ i kernel held at at_held. absurd (let z = at_held in cc) }

  pub so_far_more : (count : ℕ) (helds : List Held) (kernel : A) (held : Held) → slice_get kernels count ≡ Some kernel → IsStarted world linked known main made count kernel held → SoFar world linked known main made kernels count helds
      → SoFar world linked known main made kernels (count + 1) (helds ++ held ∷ [])
  so_far_more count helds kernel held at one so = record {
    held = length_push helds held ∙ ap (λ n. n + 1) so.held;
    each = λ i k h ak ah. by i k h ak (push_cases helds held h i ah);
  }
    where
      by : (i : ℕ) (k : A) (h : Held) → slice_get kernels i ≡ Some k → (slice_get helds i ≡ Some h) ⊎ ((i ≡ length helds) × (h ≡ held)) → IsStarted world linked known main made i k h
      by i k h ak (inl before) = so.each i k h ak before
      by i k h ak (inr last) =
          let here : i ≡ count = last.0 ∙ so.held in
          let k_is : k ≡ kernel = same_some k kernel (sym ak ∙ subst (λ n. slice_get kernels n ≡ Some kernel) (sym here) at) in
          subst (λ n. IsStarted world linked known main made n k h) (sym here)
          (subst (λ z. IsStarted world linked known main made count z h) (sym k_is)
          (subst (λ (z : Held). IsStarted world linked known main made count kernel z) (sym last.1) one))

  pub all_started : (count : ℕ) (helds : List Held) → count ≡ length kernels → SoFar world linked known main made kernels count helds → AreStarted world linked known main made kernels helds
  all_started count helds e so = record { count = so.held ∙ e; each = λ i kernel held at at_held. so.each i kernel held at at_held }
