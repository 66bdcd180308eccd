-- A tower that was read, and whose programs keep the rules, stands as laying it out asks.
use Rattle.std.proofs.Common.{◌≡◌, ℕ, zero, suc, ◌+◌, ◌<◌, ◌≤◌, Bool, false, true, List, [], ◌∷◌, ◌++◌, Some, get_or, length, slice_get, take, sym, ap, ◌∙◌, subst, arith}
use Rattle.std.proofs.lemmas.List.{take_all, take_more}
use Rattle.std.proofs.lemmas.List.Elements.{All-append, All-cons, All-nil}
use Rattle.std.proofs.lemmas.Option.{same_Some}
use Rattle.som_model.specs.Conforming.{ProgramOk, ReleaseOk}
use Rattle.som_towerimage.specs.declared.level.Level.{Level}
use Rattle.som_towerimage.specs.Spelling.{most_below}
use Rattle.som_tower.specs.Towers.{IsSound, IsTowerOf, IsUpper}
use Rattle.som_test_towers.specs.declared.tower.Tower.{Tower}
use Rattle.som_test_towers.specs.Reading.{AllConform, AreRead, IsRead, IsReadTower}

-- what stands at a place is there
there : (xs : List Level) (i : ℕ) (l d : Level) → slice_get xs i ≡ Some l → (i < length xs) × (get_or xs i d ≡ l)
there [] i l d e = absurd (let no : ⊥ = cc in no)
there (x ∷ xs) zero l d e = (omega arith, same_Some x l e)
there (x ∷ xs) (suc i) l d e = let r = there xs i l d e in let lt = r.0 in (omega (arith, lt), r.1)

pub sound : (below : ℕ) (client : Bool) (l : Level) → IsRead below client l → ProgramOk l.program → IsSound l
sound below client l r ok = record { conforms = ok; counted = r.counted; fits = r.fits }

pub upper : (below : ℕ) (l : Level) → IsRead below false l → ProgramOk l.program → IsUpper below l
upper below l r ok = record { sound = sound below false l r ok; levels = r.levels; library = r.kind }

-- a client has eight levels below it at most
few : (n : ℕ) (l : Level) → IsRead (n + 1) true l → n + 1 ≤ 8
few n l r = let m = subst (λ z. length l.sizes ≤ most_below z) r.kind r.fits.few in let e = r.levels in omega (arith, m, e)

pub stands : (t : Tower) → IsReadTower t → ReleaseOk t.base → AllConform t.uppers → ProgramOk t.client.program → IsTowerOf t.base t.uppers t.client
stands t r base uppers client = record {
  libraries = record {
    base_ok = base;
    base_counted = r.base;
    each = λ i l at. let p = there t.uppers i l l at in upper (i + 1) l (r.uppers i l at) (subst (λ (z : Level). ProgramOk z.program) p.1 (uppers i l p.0));
    few = few (length t.uppers) t.client r.client;
  };
  sound = sound (length t.uppers + 1) true t.client r.client client;
  is_client = r.client.kind;
  levels = r.client.levels;
}

-- ---- levels read one after the other

-- a level more stands above one level more
more_from : (n : ℕ) (xs : List Level) (x : Level) → ((i : ℕ) (l : Level) → slice_get xs i ≡ Some l → IsRead (n + i + 1) false l) → IsRead (n + length xs + 1) false x
    → (i : ℕ) (l : Level) → slice_get (xs ++ x ∷ []) i ≡ Some l → IsRead (n + i + 1) false l
more_from n [] x all r zero l e = subst (λ z. IsRead (n + 0 + 1) false z) (same_Some x l e) r
more_from n [] x all r (suc i) l e = absurd (let no : ⊥ = cc in no)
more_from n (y ∷ xs) x all r zero l e = all 0 l e
more_from n (y ∷ xs) x all r (suc i) l e =
    let up : (j : ℕ) → n + 1 + j ≡ n + suc j = λ j. omega arith in
    subst (λ k. IsRead (k + 1) false l) (up i)
    (more_from (n + 1) xs x (λ j m at. subst (λ k. IsRead (k + 1) false m) (sym (up j)) (all (suc j) m at)) (subst (λ k. IsRead (k + 1) false x) (sym (up (length xs))) r) i l e)

pub read_more : (xs : List Level) (x : Level) → AreRead xs → IsRead (length xs + 1) false x → AreRead (xs ++ x ∷ [])
read_more xs x all r i l at =
    let low : (j : ℕ) → 0 + j + 1 ≡ j + 1 = λ j. omega arith in
    subst (λ k. IsRead k false l) (low i)
    (more_from 0 xs x (λ j m e. subst (λ k. IsRead k false m) (sym (low j)) (all j m e)) (subst (λ k. IsRead k false x) (sym (low (length xs))) r) i l at)

-- ---- programs looked at one after the other

pub conform_more : (xs : List Level) (i : ℕ) (x : Level) → i < length xs → x ≡ get_or xs i x → AllConform (take i xs) → ProgramOk x.program → AllConform (take (i + 1) xs)
conform_more xs i x lt is h p =
    subst AllConform (sym (take_more xs i x lt ∙ ap (λ (y : Level). take i xs ++ y ∷ []) (sym is)))
    (All-append (λ (l : Level). ProgramOk l.program) (take i xs) (x ∷ []) h (All-cons (λ (l : Level). ProgramOk l.program) x [] p (All-nil (λ (l : Level). ProgramOk l.program))))

pub conform_all : (xs : List Level) (i : ℕ) → length xs ≤ i → AllConform (take i xs) → AllConform xs
conform_all xs i over h = subst AllConform (take_all i xs over) h
