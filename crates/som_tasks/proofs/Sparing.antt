-- What a task that goes on leaves of the store to the tasks beside it.
use Rattle.std.proofs.Common.{◌≡◌, ℕ, suc, ◌+◌, ◌<◌, ◌≤◌, ◌==◌, ◌⊎◌, inl, inr, Bool, true, false, if◌then◌else◌, List, [], ◌∷◌, ◌++◌, length, Option, refl, sym, subst, append-nil, arith}
use Rattle.som_model.specs.Lists.{Mem}
use Rattle.som_model.proofs.KeyLaws.{exact_numbers}
use Rattle.som_objects.specs.Objects.{KeepsKnown, Objects, live_at}
use Rattle.som_values.specs.Shown.{IsMade, place_of}
use Rattle.som_interp_state.specs.Stored.{Spares}
use Rattle.som_interp_loop.specs.Scene.{Scene}
use Rattle.som_interp_task.specs.declared.advanced.Advanced.{Advanced}
use Rattle.som_interp_task.specs.Advance.{Comes}
use Rattle.som_interp_task.specs.Stands.{Stands}
use Rattle.som_interp_task.proofs.Sparing.{stands_still}
use Rattle.som_tasks.specs.Beside.{AreApart, StandsBeside, with_store}

-- a serial of a longer list is one of the first, or one of those that were added
made_front : (xs ys : List ℕ) (n : ℕ) → IsMade (xs ++ ys) n → IsMade xs n ⊎ Mem n ys
made_front [] ys n p = inr (among ys p)
  where
    here : (y j l : ℕ) (zs : List ℕ) (b : Bool) → (y == n) ≡ b → (if b then 0 else suc j) < suc l → (j < l → Mem n zs) → Mem n (y ∷ zs)
    here y j l zs true e p h = inl (sym (exact_numbers.two y n e))
    here y j l zs false e p h = inr (h (omega (arith, p)))

    among : (zs : List ℕ) → IsMade zs n → Mem n zs
    among [] p = absurd (let f : ⊥ = omega (arith, p) in f)
    among (z ∷ zs) p = here z (place_of zs n) (length zs) zs (z == n) refl p (among zs)
made_front (x ∷ xs) ys n p = front (x == n) (place_of xs n) (place_of (xs ++ ys) n) (length xs) (length (xs ++ ys)) p (made_front xs ys n)
  where
    front : (b : Bool) (i j k m : ℕ) → (if b then 0 else suc j) < suc m → (j < m → (i < k) ⊎ Mem n ys) → ((if b then 0 else suc i) < suc k) ⊎ Mem n ys
    front true i j k m p h = inl (omega arith)
    front false i j k m p h = elim (h (omega (arith, p))) [ inl l ↦ inl (omega (arith, l)) | inr e ↦ inr e ]

-- no serial is of an empty list
pub none_made : (xs : List ℕ) (n : ℕ) → xs ≡ [] → IsMade xs n → ⊥
none_made xs n none m = (let lt : IsMade [] n = subst (λ ys. IsMade ys n) none m in let f : ⊥ = omega (arith, lt) in f)

-- as many objects come as serials, each later than all others, and the objects of others stay
pub record Leaves (mine mine' : List ℕ) (os os' : Objects) : Type 0 where
  pub more : List ℕ
  pub serials_are : mine' ≡ mine ++ more
  pub known : KeepsKnown os os'
  pub count : length os' ≡ length os + length more
  pub others : (n : ℕ) → n ≤ length os → (IsMade mine n → ⊥) → live_at os' n ≡ live_at os n
  pub above : (n : ℕ) → Mem n more → (length os < n) × (n ≤ length os')

pub leaves : (old new : Scene) (units : ℕ) (shows : List ℕ → Bool) (prefix : List ℕ) (before after : Option (List ℕ)) (answer : Advanced) → Comes old units shows prefix before after new answer
    → Leaves old.task.serials new.task.serials old.objects new.objects
leaves old new units shows prefix before after answer x = record {
  more = x.keeps.serials;
  serials_are = x.keeps.serials_are;
  known = x.keeps.known;
  count = x.keeps.count;
  others = λ n le ne. x.keeps.others n le ne;
  above = λ n m. x.keeps.above n m;
}

pub leaves_all : (mine : List ℕ) (os : Objects) → Leaves mine mine os os
leaves_all mine os = record {
  more = [];
  serials_are = sym (append-nil mine);
  known = λ r k. k;
  count = omega arith;
  others = λ n le ne. refl;
  above = λ n m. absurd m;
}

module _ (mine mine' : List ℕ) (os os' : Objects) (x : Leaves mine mine' os os') where
  pub longer : length os ≤ length os'
  longer = let c = x.count in omega (arith, c)

  -- where the task's own were made after the first so many, and are in the store, so they are still
  pub own_later : (first : ℕ) → first ≤ length os → ((n : ℕ) → IsMade mine n → (first < n) × (n ≤ length os)) → (n : ℕ) → IsMade mine' n → (first < n) × (n ≤ length os')
  own_later first le own n m = elim (made_front mine x.more n (subst (λ xs. IsMade xs n) x.serials_are m)) [
    | inl front ↦ (let o = own n front in let l = longer in let low : first < n = o.0 in let high : n ≤ length os = o.1 in (low, omega (arith, l, high)))
    | inr added ↦ (let a = x.above n added in let low : length os < n = a.0 in (omega (arith, le, low), a.1))
  ]

  module _ (others : List ℕ) (given : (n : ℕ) → IsMade others n → n ≤ length os) (apart : AreApart mine others) where
    pub spared : Spares others os os'
    spared = record { same = λ n m. x.others n (given n m) (λ k. apart n k m); known = x.known; more = longer }

    pub still_apart : AreApart mine' others
    still_apart n m k = elim (made_front mine x.more n (subst (λ xs. IsMade xs n) x.serials_are m)) [
      | inl front ↦ apart n front k
      | inr added ↦ (let lt : length os < n = (x.above n added).0 in let le : n ≤ length os = given n k in let f : ⊥ = omega (arith, lt, le) in f)
    ]

-- a task stands with a store that spares its objects
pub stands_with : (c : Scene) (os : Objects) → Spares c.task.serials c.objects os → Stands c → Stands (with_store c os)
stands_with c os spares stands = stands_still c os c.made spares (λ k e. e) stands

pub beside : (old new other : Scene) → Leaves old.task.serials new.task.serials old.objects new.objects → other.objects ≡ old.objects → Stands other → AreApart old.task.serials other.task.serials
    → StandsBeside other new.objects new.task.serials
beside old new other x same stands apart =
    let given : (n : ℕ) → IsMade other.task.serials n → n ≤ length old.objects = λ n m. subst (λ os. n ≤ length os) same (stands.stands.at.around.holding.serials.given n m) in
    record {
      stands = stands_with other new.objects (subst (λ os. Spares other.task.serials os new.objects) (sym same) (spared old.task.serials new.task.serials old.objects new.objects x other.task.serials given apart)) stands;
      apart = still_apart old.task.serials new.task.serials old.objects new.objects x other.task.serials given apart;
    }
