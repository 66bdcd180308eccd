-- The turns so far, and one more.
use Rattle.std.proofs.Common.{◌≡◌, ℕ, suc, ◌+◌, ◌<◌, ◌≤◌, ◌^◌, Bool, List, [], ◌∷◌, ◌++◌, length, set, take, drop, get_or, cond, ◌==◌, Option, Some, Result, Ok, refl, sym, ap, subst, ◌∙◌, arith}
use Rattle.std.specs.Prelude.{slice_get}
use Rattle.std.specs.List.{All}
use Rattle.std.proofs.lemmas.List.{length-map, take_all, take_more, take-append-drop}
use Rattle.std.proofs.lemmas.List.Elements.{All-get_or}
use Rattle.std.proofs.lemmas.Option.{slice_get-get_or}
use Rattle.std.proofs.lemmas.List.Sums.{sum_by-take-le}
use Rattle.som_model.specs.declared.key.ClassKey.{ClassKey}
use Rattle.som_model.specs.declared.syntax.Block.{Block}
use Rattle.som_semantics.specs.World.{World}
use Rattle.som_turn_laws.specs.Turns.{Clients, turns_of, turns_text}
use Rattle.som_meta.specs.Numbering.{Numbering}
use Rattle.som_objects.specs.Objects.{Objects, live_at}
use Rattle.som_io.specs.Outside.{ShowsFront}
use Rattle.som_io.proofs.ShownLaws.{front_all, shows_none}
use Rattle.som_trace.specs.declared.line.Untold.{Untold}
use Rattle.som_interp_state.specs.Settings.{Linked}
use Rattle.som_interp_task.specs.declared.advanced.Advanced.{Advanced}
use Rattle.som_tasks.specs.declared.client.Client.{Client as Held}
use Rattle.som_tasks.specs.Taken.{AreKept}
use Rattle.som_tasks.specs.Turning.{CanTurn, IsKept, Turns}
use Rattle.som_tasks.specs.Stage.{AreAfter, HaveTurned, IsAfter}
use Rattle.som_tasks.proofs.Telling.{front_more, tells_all, tells_front, told_more}
use Rattle.som_tasks.proofs.Joining.{after_turn, kept_more, older_stay, own_turn}

pub kept_all : {A : Type 0} (keys : A → List ClassKey) (world : A → World) (known : A → Numbering) (linked : A → Linked) (main : A → Block) (kernels : List A) → AreKept keys world known linked main kernels kernels
kept_all keys world known linked main kernels = record { same_keys = refl; same_worlds = refl; same_classes = refl; same_linked = refl; same_mains = refl }

-- as many kernels are there as before
pub kept_count : {A : Type 0} (keys : A → List ClassKey) (world : A → World) (known : A → Numbering) (linked : A → Linked) (main : A → Block) (old new : List A) → AreKept keys world known linked main old new → length new ≡ length old
kept_count keys world known linked main old new k = sym (length-map new main) ∙ ap (λ (bs : List Block). length bs) k.same_mains ∙ length-map old main

-- nothing is answered but that all was told
pub told_whole : (nothing : Unit {0}) → ◌≡◌ {A = Result (Unit {0}) Untold} (Ok nothing) (Ok tt)
told_whole nothing = refl

-- no turn was taken yet
pub none_turned : {A : Type 0} (keys : A → List ClassKey) (world : A → World) (linked : A → Linked) (known : A → Numbering) (main : A → Block) (made : A → ClassKey → Bool) (clients : Clients) (written : Option (List ℕ)) (os : Objects) (kernels : List A) (helds : List Held) (ends : List Advanced)
    → AreAfter linked known main made (length os) clients [] os kernels helds ends → HaveTurned keys world linked known main made clients [] written written os os kernels kernels helds ends
none_turned keys world linked known main made clients written os kernels helds ends all = record {
  stage = all;
  text = shows_none written;
  kept = kept_all keys world known linked main kernels;
  older = λ n le. refl;
}

-- a client has no more turns among the first than among all
turns_front : (i n : ℕ) (turns : List ℕ) → turns_of i (take n turns) ≤ turns_of i turns
turns_front i n turns = sum_by-take-le (λ k. cond (k == i) 1 0) turns n

-- all turns were taken
pub front_done : {A : Type 0} (keys : A → List ClassKey) (world : A → World) (linked : A → Linked) (known : A → Numbering) (main : A → Block) (made : A → ClassKey → Bool) (clients : Clients) (turns : List ℕ) (n : ℕ) (first before : Option (List ℕ)) (os₀ os : Objects) (kernels₀ kernels : List A) (helds : List Held) (ends : List Advanced)
    → length turns ≤ n → HaveTurned keys world linked known main made clients (take n turns) first before os₀ os kernels₀ kernels helds ends → ShowsFront first before (turns_text clients turns)
front_done keys world linked known main made clients turns n first before os₀ os kernels₀ kernels helds ends le so =
    subst (λ (ts : List ℕ). ShowsFront first before (turns_text clients ts)) (take_all n turns le) (front_all first before (turns_text clients (take n turns)) so.text)

module _ {A : Type 0} (keys : A → List ClassKey) (world : A → World) (linked : A → Linked) (known : A → Numbering) (main : A → Block) (made : A → ClassKey → Bool) (clients : Clients) (turns : List ℕ) (n : ℕ) (lt : n < length turns) (first before : Option (List ℕ)) (os₀ os : Objects) (kernels₀ kernels : List A) (helds : List Held) (ends : List Advanced)
    (so : HaveTurned keys world linked known main made clients (take n turns) first before os₀ os kernels₀ kernels helds ends) (i : ℕ) (is : i ≡ get_or turns n 0) (places : All (λ turn. turn < length kernels₀) turns) (k₀ : A) (h₀ : Held) (e₀ : Advanced) where
  -- the kernel, the client and its end at the place that has the turn
  abbrev kernel : A
  kernel = get_or kernels i k₀

  abbrev held : Held
  held = get_or helds i h₀

  abbrev end : Advanced
  end = get_or ends i e₀

  taken : take (n + 1) turns ≡ take n turns ++ i ∷ []
  taken = take_more turns n 0 lt ∙ ap (λ j. take n turns ++ j ∷ []) (sym is)

  within : i < length kernels
  within =
      let there : get_or turns n 0 < length kernels₀ = All-get_or (λ turn. turn < length kernels₀) turns n 0 lt places in
      let count : length kernels ≡ length kernels₀ = kept_count keys world known linked main kernels₀ kernels so.kept in
      omega (arith, there, count, is)

  at : slice_get kernels i ≡ Some kernel
  at = slice_get-get_or kernels i k₀ within

  at_held : slice_get helds i ≡ Some held
  at_held = slice_get-get_or helds i h₀ (let a = so.stage.all_held in let w = within in omega (arith, a, w))

  at_end : slice_get ends i ≡ Some end
  at_end = slice_get-get_or ends i e₀ (let a = so.stage.all_ends in let w = within in omega (arith, a, w))

  mine : IsAfter linked known main made (length os₀) (clients i) i (turns_of i (take n turns)) os kernel held end
  mine = so.stage.each i kernel held end at at_held at_end

  -- the client whose turn it is can be gone on with, if it is live
  pub can_turn : ((j : ℕ) → turns_of j turns < 2 ^ 32) → CanTurn linked known main made os kernel held
  can_turn few = record {
    stands = mine.stands;
    units = λ live. (
        let front : turns_of i (take (n + 1) turns) ≤ turns_of i turns = turns_front i (n + 1) turns in
        let next : turns_of i (take (n + 1) turns) ≡ suc (turns_of i (take n turns)) = ap (turns_of i) taken ∙ own_turn i (take n turns) in
        let all : turns_of i turns < 2 ^ 32 = few i in
        let granted : held.task.task.granted ≡ turns_of i (take n turns) = mine.granted live in
        omega (arith, front, next, all, granted));
  }

  module _ (os' : Objects) (kernel' : A) (held' : Held) (end' : Advanced) (after : Option (List ℕ)) (result : Result (Unit {0}) Untold) (kept : IsKept keys world known linked main kernel kernel') (t : Turns linked known main made before after os os' kernel kernel' held held' end end' result) where
    pub kept_next : AreKept keys world known linked main kernels₀ (set kernels i kernel')
    kept_next = kept_more keys world known linked main kernels₀ kernels i kernel kernel' at so.kept kept

    pub older_next : (m : ℕ) → m ≤ length os₀ → live_at os' m ≡ live_at os₀ m
    older_next m le = older_stay keys world linked known main made (length os₀) clients (take n turns) i os os' kernels helds ends kernel kernel' held held' end end' before after result so.stage at at_held at_end kept t m le ∙ so.older m le

    pub front_next : ShowsFront first after (turns_text clients turns)
    front_next =
        let text = front_more clients (take n turns) i (drop (n + 1) turns) first before after so.text (tells_front linked known main made (length os₀) (clients i) i (turns_of i (take n turns)) os os' kernel kernel' held held' end end' before after result mine t) in
        let whole : (take n turns ++ i ∷ []) ++ drop (n + 1) turns ≡ turns = ap (λ (ts : List ℕ). ts ++ drop (n + 1) turns) (sym taken) ∙ take-append-drop (n + 1) turns in
        subst (λ (ts : List ℕ). ShowsFront first after (turns_text clients ts)) whole text

    pub turned_next : result ≡ Ok tt → HaveTurned keys world linked known main made clients (take (n + 1) turns) first after os₀ os' kernels₀ (set kernels i kernel') (set helds i held') (set ends i end')
    turned_next ok =
        subst (λ (ts : List ℕ). HaveTurned keys world linked known main made clients ts first after os₀ os' kernels₀ (set kernels i kernel') (set helds i held') (set ends i end')) (sym taken) (record {
          stage = after_turn keys world linked known main made (length os₀) clients (take n turns) i os os' kernels helds ends kernel kernel' held held' end end' before after result so.stage at at_held at_end kept t ok;
          text = told_more clients (take n turns) i first before after so.text (tells_all linked known main made (length os₀) (clients i) i (turns_of i (take n turns)) os os' kernel kernel' held held' end end' before after result mine t ok);
          kept = kept_next;
          older = older_next;
        })
