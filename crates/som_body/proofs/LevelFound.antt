-- What is read where its levels suffice, and else is answered as a level too many, at the first token with which there is one.
use Rattle.std.proofs.Common.{◌≡◌, ℕ, zero, suc, ◌+◌, ◌<◌, ◌≤◌, max, List, [], ◌∷◌, ◌++◌, length, take, Ok, Err, refl, sym, ◌∙◌, ap, subst, append_assoc, length-append, inl, inr, arith}
use Rattle.std.proofs.lemmas.Bool.{cases_lt}
use Rattle.som_parse.specs.Readers.{Outcome, Parser, and_then, ◌>>=◌, go, turns, repeat}
use Rattle.som_parse.specs.declared.cursor.Stop.TheVariants.{Nesting}
use Rattle.som_parse.specs.declared.cursor.Turn.{Turn}
use Rattle.som_parse.specs.declared.cursor.Turn.TheVariants.{More, Done}
use Rattle.som_parse.specs.declared.token.Token.{Token}
use Rattle.som_parse.proofs.Found.{Climbing, climb_first, climb_on, climb_end}
use Rattle.som_body.specs.Levels.{top, down}
use Rattle.som_body.proofs.LevelLists.{top_append, down_low, down_high, up_low, up_high, take_down, length_down, take_first, take_later, take_all, top_part}

-- Of the tokens w, with levels l, the answer is a level too many at the first where there is one.
pub record Deep {A : Type 0} (d : ℕ) (l : List ℕ) (w : List Token) (o : Outcome A) : Type 0 where
  pub front : List Token
  pub rest : List Token
  pub splits : w ≡ front ++ rest
  pub is : o ≡ Err (Nesting, rest)
  pub low : top (take (length front) l) ≤ d
  pub high : d < top (take (suc (length front)) l)

-- x, with levels l, is found at the front of w where d are left, and z after it
pub record Found {A : Type 0} (d : ℕ) (l : List ℕ) (x : A) (z w : List Token) (o : Outcome A) : Type 0 where
  pub taken : List Token
  pub splits : w ≡ taken ++ z
  pub counts : length l ≡ length taken
  pub fits : top l ≤ d → o ≡ Ok (x, z)
  pub deep : d < top l → Deep d l w o

-- ---- where the level too many is

pub short : {A : Type 0} {d : ℕ} {l : List ℕ} {w : List Token} {o : Outcome A} (m : Deep d l w o) → length m.front < length l
short {d = d} {l = l} m = elim (cases_lt (length m.front) (length l)) [
  | inl lt ↦ lt
  | inr le ↦ (let e : top (take (length m.front) l) ≡ top l = ap top (take_all (length m.front) l le) in absurd (omega (arith, m.low, m.high, e, top_part (suc (length m.front)) l)))
]

-- in a longer text the level too many is where it was
pub deep_more : {A B : Type 0} {d : ℕ} {l : List ℕ} {w : List Token} {o : Outcome A} {o' : Outcome B} (k : List ℕ) (v : List Token) (m : Deep d l w o) → o' ≡ Err (Nesting, m.rest) → v ≡ w → Deep d (l ++ k) v o'
deep_more {d = d} {l = l} k v m e same = record {
  front = m.front;
  rest = m.rest;
  splits = same ∙ m.splits;
  is = e;
  low = subst (λ x. top x ≤ d) (sym (take_first (length m.front) l k (omega (arith, short m)))) m.low;
  high = subst (λ x. d < top x) (sym (take_first (suc (length m.front)) l k (omega (arith, short m)))) m.high;
}

-- the level too many after other tokens, whose levels suffice
pub deep_after : {A B : Type 0} {d : ℕ} {l : List ℕ} {w : List Token} {o : Outcome A} {o' : Outcome B} (k : List ℕ) (u v : List Token) (m : Deep d l w o) → o' ≡ Err (Nesting, m.rest) → length k ≡ length u → top k ≤ d → v ≡ u ++ w → Deep d (k ++ l) v o'
deep_after {d = d} {l = l} k u v m e counts le same =
    let at : length (u ++ m.front) ≡ length k + length m.front = omega (arith, counts, length-append u m.front) in
    let next : suc (length (u ++ m.front)) ≡ length k + suc (length m.front) = omega (arith, at) in
    let below : top (take (length (u ++ m.front)) (k ++ l)) ≡ max (top k) (top (take (length m.front) l)) = ap (λ n. top (take n (k ++ l))) at ∙ ap top (take_later k l (length m.front)) ∙ top_append k (take (length m.front) l) in
    let above : top (take (suc (length (u ++ m.front))) (k ++ l)) ≡ max (top k) (top (take (suc (length m.front)) l)) = ap (λ n. top (take n (k ++ l))) next ∙ ap top (take_later k l (suc (length m.front))) ∙ top_append k (take (suc (length m.front)) l) in
    record {
      front = u ++ m.front;
      rest = m.rest;
      splits = same ∙ ap (λ y. u ++ y) m.splits ∙ sym (append_assoc u m.front m.rest);
      is = e;
      low = omega (arith, below, le, m.low);
      high = omega (arith, above, m.high);
    }

-- one level down
deep_down : {A : Type 0} {d : ℕ} {l : List ℕ} {w : List Token} {o : Outcome A} → Deep d l w o → Deep (suc d) (down l) w o
deep_down {d = d} {l = l} m = record {
  front = m.front;
  rest = m.rest;
  splits = m.splits;
  is = m.is;
  low = subst (λ x. top x ≤ suc d) (sym (take_down (length m.front) l)) (down_low (take (length m.front) l) d m.low);
  high = subst (λ x. suc d < top x) (sym (take_down (suc (length m.front)) l)) (down_high (take (suc (length m.front)) l) d m.high);
}

-- the first token with the operand that it pushes
pub deep_here : {A : Type 0} {d : ℕ} (l m : List ℕ) (u : List Token) (w : List Token) (o : Outcome A) → length l ≡ length u → top l ≤ suc d → d < top l → o ≡ Err (Nesting, w) → Deep (suc d) (l ++ suc (top l) ∷ m) (u ++ w) o
deep_here {d = d} l m u w o counts le gt e =
    let front : take (length u) (l ++ suc (top l) ∷ m) ≡ l = ap (λ n. take n (l ++ suc (top l) ∷ m)) (sym counts) ∙ take_first (length l) l (suc (top l) ∷ m) (omega arith) ∙ take_all (length l) l (omega arith) in
    let next : suc (length u) ≡ length l + 1 = omega (arith, counts) in
    let also : top (take (suc (length u)) (l ++ suc (top l) ∷ m)) ≡ max (top l) (top (suc (top l) ∷ [])) = ap (λ n. top (take n (l ++ suc (top l) ∷ m))) next ∙ ap top (take_later l (suc (top l) ∷ m) 1) ∙ top_append l (suc (top l) ∷ []) in
    record { front = u; rest = w; splits = refl; is = e; low = subst (λ x. top x ≤ suc d) (sym front) le; high = omega (arith, also, gt) }

-- ---- steps

-- what takes no level
pub now : {A : Type 0} {d : ℕ} {x : A} {z : List Token} {o : Outcome A} (l : List ℕ) (u : List Token) → length l ≡ length u → top l ≡ 0 → o ≡ Ok (x, z) → Found d l x z (u ++ z) o
now l u counts none e = record { taken = u; splits = refl; counts = counts; fits = λ le. e; deep = λ gt. absurd (omega (arith, gt, none)) }

-- one token that takes none
pub now_one : {A : Type 0} {d : ℕ} {x : A} {z : List Token} {o : Outcome A} (t : Token) → o ≡ Ok (x, z) → Found d (0 ∷ []) x z (t ∷ z) o
now_one t e = now (0 ∷ []) (t ∷ []) refl refl e

-- one level
pub single : {A : Type 0} {d : ℕ} {x : A} {z : List Token} {o : Outcome A} (l : List ℕ) (u : List Token) → length l ≡ length u → top l ≡ 1 → o ≡ Ok (x, z) → Found (suc d) l x z (u ++ z) o
single l u counts one e = record { taken = u; splits = refl; counts = counts; fits = λ le. e; deep = λ gt. absurd (omega (arith, gt, one)) }

-- the token t has been passed
pub passed : {A : Type 0} {d : ℕ} {l : List ℕ} {x : A} {z w : List Token} {o : Outcome A} (t : Token) → Found d l x z w o → Found d (0 ∷ l) x z (t ∷ w) o
passed {d = d} {l = l} {w = w} t m = record {
  taken = t ∷ m.taken;
  splits = ap (λ y. t ∷ y) m.splits;
  counts = ap suc m.counts;
  fits = λ le. let low : top l ≤ d = omega (arith, le) in m.fits low;
  deep = λ gt. let high : d < top l = omega (arith, gt) in let n = m.deep high in deep_after (0 ∷ []) (t ∷ []) (t ∷ w) n n.is refl (omega arith) refl;
}

-- a last step that takes nothing
pub made : {A B : Type 0} {d : ℕ} {l : List ℕ} {x : A} {y : B} {z w : List Token} {o : Outcome A} (f : A → Parser B) → Found d l x z w o → f x z ≡ Ok (y, z) → Found d l y z w (and_then o f)
made f m e = record {
  taken = m.taken;
  splits = m.splits;
  counts = m.counts;
  fits = λ le. ap (λ o. and_then o f) (m.fits le) ∙ e;
  deep = λ gt. let n = m.deep gt in record { front = n.front; rest = n.rest; splits = n.splits; is = ap (λ o. and_then o f) n.is; low = n.low; high = n.high };
}

-- one after the other
module _ {A B : Type 0} {d : ℕ} {l m : List ℕ} {x : A} {y : B} {z v w : List Token} {o : Outcome A} (f : A → Parser B) (first : Found d l x v w o) (second : Found d m y z v (f x v)) where
  both_fit : top (l ++ m) ≤ d → and_then o f ≡ Ok (y, z)
  both_fit le = ap (λ o. and_then o f) (first.fits (omega (arith, le, top_append l m))) ∙ second.fits (omega (arith, le, top_append l m))

  second_deep : top l ≤ d → d < top m → Deep d (l ++ m) w (and_then o f)
  second_deep le gt =
      let n = second.deep gt in
      deep_after l first.taken w n (ap (λ o. and_then o f) (first.fits le) ∙ n.is) first.counts le first.splits

  first_deep : d < top l → Deep d (l ++ m) w (and_then o f)
  first_deep gt = let n = first.deep gt in deep_more m w n (ap (λ o. and_then o f) n.is) refl

  both_deep : d < top (l ++ m) → Deep d (l ++ m) w (and_then o f)
  both_deep gt = elim (cases_lt d (top l)) [ inl high ↦ first_deep high | inr le ↦ second_deep le (omega (arith, gt, le, top_append l m)) ]

  pub next : Found d (l ++ m) y z w (and_then o f)
  next = record {
    taken = first.taken ++ second.taken;
    splits = first.splits ∙ ap (λ y. first.taken ++ y) second.splits ∙ sym (append_assoc first.taken second.taken z);
    counts = omega (arith, first.counts, second.counts, length-append l m, length-append first.taken second.taken);
    fits = both_fit;
    deep = both_deep;
  }

-- what was read becomes an operand of what follows: the token t, which has the level of that, and y
module _ {A B : Type 0} {d : ℕ} (f : A → Parser B) (l m : List ℕ) (t : Token) (y : List Token) {x : A} {b : B} {z w : List Token} {o : Outcome A} {o' : Outcome B} (first : Found (suc d) l x (t ∷ y) w o) (found : Found (suc d) m b z y o')
    (room : top l ≤ d → f x (t ∷ y) ≡ o') (none : d < top l → f x (t ∷ y) ≡ Err (Nesting, t ∷ y)) where
  abbrev both_levels : List ℕ
  both_levels = l ++ suc (top l) ∷ m

  both_top : top both_levels ≡ max (suc (top l)) (top m)
  both_top = omega (arith, top_append l (suc (top l) ∷ m))

  operand_fits : top both_levels ≤ suc d → and_then o f ≡ Ok (b, z)
  operand_fits le = let low : top l ≤ d = omega (arith, le, both_top) in ap (λ o. and_then o f) (first.fits (omega (arith, low))) ∙ room low ∙ found.fits (omega (arith, le, both_top))

  operand_before : suc d < top l → Deep (suc d) both_levels w (and_then o f)
  operand_before gt = let n = first.deep gt in deep_more (suc (top l) ∷ m) w n (ap (λ o. and_then o f) n.is) refl

  operand_here : top l ≤ suc d → d < top l → Deep (suc d) both_levels w (and_then o f)
  operand_here le gt = subst (λ x. Deep (suc d) both_levels x (and_then o f)) (sym first.splits) (deep_here l m first.taken (t ∷ y) (and_then o f) first.counts le gt (ap (λ o. and_then o f) (first.fits le) ∙ none gt))

  operand_there : top l ≤ d → suc d < top m → Deep (suc d) both_levels w (and_then o f)
  operand_there le gt =
      let n = found.deep gt in
      let e : and_then o f ≡ Err (Nesting, n.rest) = ap (λ o. and_then o f) (first.fits (omega (arith, le))) ∙ room le ∙ n.is in
      let front : (l ++ suc (top l) ∷ []) ++ m ≡ both_levels = append_assoc l (suc (top l) ∷ []) m in
      let levels : top (l ++ suc (top l) ∷ []) ≤ suc d = omega (arith, le, top_append l (suc (top l) ∷ [])) in
      let many : length (l ++ suc (top l) ∷ []) ≡ length (first.taken ++ t ∷ []) = omega (arith, first.counts, length-append l (suc (top l) ∷ []), length-append first.taken (t ∷ [])) in
      let text : w ≡ (first.taken ++ t ∷ []) ++ y = first.splits ∙ sym (append_assoc first.taken (t ∷ []) y) in
      subst (λ k. Deep (suc d) k w (and_then o f)) front (deep_after (l ++ suc (top l) ∷ []) (first.taken ++ t ∷ []) w n e many levels text)

  operand_deep : suc d < top both_levels → Deep (suc d) both_levels w (and_then o f)
  operand_deep gt =
      elim (cases_lt (suc d) (top l)) [
        | inl taller ↦ operand_before taller
        | inr le ↦ elim (cases_lt d (top l)) [ inl high ↦ operand_here le high | inr low ↦ operand_there low (omega (arith, gt, low, both_top)) ]
      ]

  pub operand : Found (suc d) both_levels b z w (and_then o f)
  operand = record {
    taken = first.taken ++ t ∷ found.taken;
    splits = first.splits ∙ ap (λ x. first.taken ++ t ∷ x) found.splits ∙ sym (append_assoc first.taken (t ∷ found.taken) z);
    counts = omega (arith, first.counts, found.counts, length-append l (suc (top l) ∷ m), length-append first.taken (t ∷ found.taken));
    fits = operand_fits;
    deep = operand_deep;
  }

-- two first tokens of a form with a level, below which the rest was read
raised_by : (n : ℕ) (k : List ℕ) → (top (take n (1 ∷ 1 ∷ k)) ≤ max 1 (top (take n (0 ∷ 0 ∷ k)))) × (top (take n (0 ∷ 0 ∷ k)) ≤ top (take n (1 ∷ 1 ∷ k)))
raised_by zero k = (omega arith, omega arith)
raised_by (suc zero) k = (omega arith, omega arith)
raised_by (suc (suc n)) k = (omega arith, omega arith)

pub raised : {A : Type 0} {d : ℕ} {k : List ℕ} {x : A} {z w : List Token} {o : Outcome A} → Found (suc d) (0 ∷ 0 ∷ k) x z w o → Found (suc d) (1 ∷ 1 ∷ k) x z w o
raised {d = d} {k = k} m = record {
  taken = m.taken;
  splits = m.splits;
  counts = m.counts;
  fits = λ le. m.fits (omega (arith, le));
  deep = λ gt.
      let n = m.deep (omega (arith, gt)) in
      let below = (raised_by (length n.front) k).0 in
      let above = (raised_by (suc (length n.front)) k).1 in
      record { front = n.front; rest = n.rest; splits = n.splits; is = n.is; low = omega (arith, below, n.low); high = omega (arith, above, n.high) };
}

-- one level down
pub lifted : {A : Type 0} {d : ℕ} {l : List ℕ} {x : A} {z w : List Token} {o : Outcome A} → Found d l x z w o → Found (suc d) (down l) x z w o
lifted {d = d} {l = l} m = record {
  taken = m.taken;
  splits = m.splits;
  counts = length_down l ∙ m.counts;
  fits = λ le. m.fits (up_low l d le);
  deep = λ gt. deep_down (m.deep (up_high l d gt));
}

pub valued : {A : Type 0} {d : ℕ} {l : List ℕ} {x y : A} {z w : List Token} {o : Outcome A} → x ≡ y → Found d l x z w o → Found d l y z w o
valued {d = d} {l = l} {z = z} {w = w} {o = o} e m = subst (λ v. Found d l v z w o) e m

pub leveled : {A : Type 0} {d : ℕ} {k l : List ℕ} {x : A} {z w : List Token} {o : Outcome A} → k ≡ l → Found d k x z w o → Found d l x z w o
leveled {d = d} {x = x} {z = z} {w = w} {o = o} e m = subst (λ v. Found d v x z w o) e m

-- ---- chains

-- o is what further turns from a give on z, where the levels of a, at the front of w, suffice
pub record Climbs {A B : Type 0} (turn : A → Parser (Turn A B)) (d : ℕ) (l : List ℕ) (a : A) (z w : List Token) (o : Outcome B) : Type 0 where
  pub taken : List Token
  pub splits : w ≡ taken ++ z
  pub counts : length l ≡ length taken
  pub fits : top l ≤ d → Climbing turn a z o
  pub deep : d < top l → Deep d l w o

pub valued_climbs : {A B : Type 0} {turn : A → Parser (Turn A B)} {d : ℕ} {l : List ℕ} {a c : A} {z w : List Token} {o : Outcome B} → a ≡ c → Climbs turn d l a z w o → Climbs turn d l c z w o
valued_climbs {turn = turn} {d = d} {l = l} {z = z} {w = w} {o = o} e m = subst (λ v. Climbs turn d l v z w o) e m

pub leveled_climbs : {A B : Type 0} {turn : A → Parser (Turn A B)} {d : ℕ} {k l : List ℕ} {a : A} {z w : List Token} {o : Outcome B} → k ≡ l → Climbs turn d k a z w o → Climbs turn d l a z w o
leveled_climbs {turn = turn} {d = d} {a = a} {z = z} {w = w} {o = o} e m = subst (λ v. Climbs turn d v a z w o) e m

module _ {A B : Type 0} (turn : A → Parser (Turn A B)) where
  out_by : (a : A) (w y : List Token) (o : Outcome B) (n : ℕ) → length w < n → o ≡ turns turn n a w → turn a w ≡ Err (Nesting, y) → o ≡ Err (Nesting, y)
  out_by a w y o zero lt same e = absurd (omega (arith, lt))
  out_by a w y o (suc n) lt same e = same ∙ ap (λ x. and_then x (go (turns turn n))) e

  pub climb_out : (a : A) (w y : List Token) (o : Outcome B) → Climbing turn a w o → turn a w ≡ Err (Nesting, y) → o ≡ Err (Nesting, y)
  climb_out a w y o m e = out_by a w y o m.fuel m.enough m.same e

  pub climbs_first : (d : ℕ) (l : List ℕ) (u : List Token) (a : A) (z : List Token) → length l ≡ length u → top l ≤ d → Climbs turn d l a z (u ++ z) (repeat turn a z)
  climbs_first d l u a z counts le = record { taken = u; splits = refl; counts = counts; fits = λ low. climb_first turn a z; deep = λ gt. absurd (omega (arith, le, gt)) }

  -- the first of a chain
  pub first_climbs : {C : Type 0} (f : C → A) (d : ℕ) (l : List ℕ) (a : C) (z w : List Token) (o : Outcome C) → Found d l a z w o → Climbs turn d l (f a) z w (and_then o (λ x. repeat turn (f x)))
  first_climbs f d l a z w o m = record {
    taken = m.taken;
    splits = m.splits;
    counts = m.counts;
    fits = λ le. let c = climb_first turn (f a) z in record { fuel = c.fuel; enough = c.enough; same = ap (λ o. and_then o (λ x. repeat turn (f x))) (m.fits le) ∙ c.same };
    deep = λ gt. let n = m.deep gt in record { front = n.front; rest = n.rest; splits = n.splits; is = ap (λ o. and_then o (λ x. repeat turn (f x))) n.is; low = n.low; high = n.high };
  }

  -- the end of a chain
  pub climbs_end : (d : ℕ) (l : List ℕ) (a : A) (b : B) (z w : List Token) (o : Outcome B) → Climbs turn d l a z w o → turn a z ≡ Ok (Done b, z) → Found d l b z w o
  climbs_end d l a b z w o c e = record { taken = c.taken; splits = c.splits; counts = c.counts; fits = λ le. climb_end turn a b z o (c.fits le) e; deep = c.deep }

  -- a chain's next member, which pushes what was read one level down: its first token t has the level of that, and y follows
  module _ (d : ℕ) (l m : List ℕ) (t : Token) (y : List Token) (a c : A) (z w : List Token) (o : Outcome B) (o' : Outcome (Turn A B)) (climbs : Climbs turn (suc d) l a (t ∷ y) w o) (found : Found (suc d) m (More c) z y o')
      (room : top l ≤ d → turn a (t ∷ y) ≡ o') (none : d < top l → turn a (t ∷ y) ≡ Err (Nesting, t ∷ y)) where
    abbrev all : List ℕ
    all = l ++ suc (top l) ∷ m

    all_top : top all ≡ max (suc (top l)) (top m)
    all_top = omega (arith, top_append l (suc (top l) ∷ m))

    push_fits : top all ≤ suc d → Climbing turn c z o
    push_fits le =
        let low : top l ≤ d = omega (arith, le, all_top) in
        let shorter : length z < length (t ∷ y) = omega (arith, ap length found.splits, length-append found.taken z) in
        climb_on turn a c (t ∷ y) z o (climbs.fits (omega (arith, low))) (room low ∙ found.fits (omega (arith, le, all_top))) shorter

    push_before : suc d < top l → Deep (suc d) all w o
    push_before gt = let n = climbs.deep gt in deep_more (suc (top l) ∷ m) w n n.is refl

    push_here : top l ≤ suc d → d < top l → Deep (suc d) all w o
    push_here le gt = subst (λ x. Deep (suc d) all x o) (sym climbs.splits) (deep_here l m climbs.taken (t ∷ y) o climbs.counts le gt (climb_out a (t ∷ y) (t ∷ y) o (climbs.fits le) (none gt)))

    push_there : top l ≤ d → suc d < top m → Deep (suc d) all w o
    push_there le gt =
        let n = found.deep gt in
        let e : o ≡ Err (Nesting, n.rest) = climb_out a (t ∷ y) n.rest o (climbs.fits (omega (arith, le))) (room le ∙ n.is) in
        let front : (l ++ suc (top l) ∷ []) ++ m ≡ all = append_assoc l (suc (top l) ∷ []) m in
        let levels : top (l ++ suc (top l) ∷ []) ≤ suc d = omega (arith, le, top_append l (suc (top l) ∷ [])) in
        let many : length (l ++ suc (top l) ∷ []) ≡ length (climbs.taken ++ t ∷ []) = omega (arith, climbs.counts, length-append l (suc (top l) ∷ []), length-append climbs.taken (t ∷ [])) in
        let text : w ≡ (climbs.taken ++ t ∷ []) ++ y = climbs.splits ∙ sym (append_assoc climbs.taken (t ∷ []) y) in
        subst (λ k. Deep (suc d) k w o) front (deep_after (l ++ suc (top l) ∷ []) (climbs.taken ++ t ∷ []) w n e many levels text)

    push_deep : suc d < top all → Deep (suc d) all w o
    push_deep gt =
        elim (cases_lt (suc d) (top l)) [
          | inl taller ↦ push_before taller
          | inr le ↦ elim (cases_lt d (top l)) [ inl high ↦ push_here le high | inr low ↦ push_there low (omega (arith, gt, low, all_top)) ]
        ]

    pub pushed_chain : Climbs turn (suc d) all c z w o
    pushed_chain = record {
      taken = climbs.taken ++ t ∷ found.taken;
      splits = climbs.splits ∙ ap (λ x. climbs.taken ++ t ∷ x) found.splits ∙ sym (append_assoc climbs.taken (t ∷ found.taken) z);
      counts = omega (arith, climbs.counts, found.counts, length-append l (suc (top l) ∷ m), length-append climbs.taken (t ∷ found.taken));
      fits = push_fits;
      deep = push_deep;
    }

  -- a chain whose members stay at one level
  module _ (d : ℕ) (l m : List ℕ) (a c : A) (z v w : List Token) (o : Outcome B) (climbs : Climbs turn d l a v w o) (found : Found d m (More c) z v (turn a v)) (long : length z < length v) where
    level_fits : top (l ++ m) ≤ d → Climbing turn c z o
    level_fits le = climb_on turn a c v z o (climbs.fits (omega (arith, le, top_append l m))) (found.fits (omega (arith, le, top_append l m))) long

    level_before : d < top l → Deep d (l ++ m) w o
    level_before gt = let n = climbs.deep gt in deep_more m w n n.is refl

    level_after : top l ≤ d → d < top m → Deep d (l ++ m) w o
    level_after le gt =
        let n = found.deep gt in
        deep_after l climbs.taken w n (climb_out a v n.rest o (climbs.fits le) n.is) climbs.counts le climbs.splits

    level_deep : d < top (l ++ m) → Deep d (l ++ m) w o
    level_deep gt = elim (cases_lt d (top l)) [ inl high ↦ level_before high | inr le ↦ level_after le (omega (arith, gt, le, top_append l m)) ]

    pub level_chain : Climbs turn d (l ++ m) c z w o
    level_chain = record {
      taken = climbs.taken ++ found.taken;
      splits = climbs.splits ∙ ap (λ y. climbs.taken ++ y) found.splits ∙ sym (append_assoc climbs.taken found.taken z);
      counts = omega (arith, climbs.counts, found.counts, length-append l m, length-append climbs.taken found.taken);
      fits = level_fits;
      deep = level_deep;
    }
