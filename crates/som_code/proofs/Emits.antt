-- What is written one after the other, and jumps that are written back, are the code of a form.
use Rattle.std.proofs.Common.{◌≡◌, ◌+◌, ℕ, List, [], ◌∷◌, ◌++◌, length, Result, Ok, Err, OnOk, true, false, refl, sym, ap, ◌∙◌, arith, length-append, append_assoc}
use Rattle.std.specs.Prelude.{slice_set}
use Rattle.std.proofs.Math.Seq.{set-append_seam}
use Rattle.som_model.specs.declared.syntax.HostCode.{HostCode}
use Rattle.som_model.specs.declared.syntax.Expr.{Expr, fold-roll-Expr}
use Rattle.som_model.specs.declared.syntax.Expr.TheVariants as exprs
use Rattle.som_model.specs.declared.syntax.Expr.TheVariants.{rolls-Host}
use Rattle.som_model.specs.declared.syntax.Expr.TheOpen.{Expr-F}
use Rattle.som_code.specs.declared.instruction.Constant.TheVariants as constants
use Rattle.som_code.specs.declared.instruction.Instruction.{Instruction}
use Rattle.som_code.specs.declared.instruction.Instruction.TheVariants as ops
use Rattle.som_code.specs.Laid.{Lays, just, ◌then◌, lay_and, lay_or, lay_choice, lay_loop, expr_step, lay_expr}

pub on_ok : {A E P Q : Type 0} (r : Result A E) → OnOk r P → (P → Q) → OnOk r Q
on_ok (Ok x) p f = f p
on_ok (Err e) p f = p

-- one piece after another
pub emits_then : (f g : Lays) (c c1 c2 : List Instruction) → c1 ≡ c ++ f (length c) → c2 ≡ c1 ++ g (length c1) → c2 ≡ c ++ (f then g) (length c)
emits_then f g c c1 c2 e1 e2 =
    let x : List Instruction = f (length c) in
    e2 ∙ ap (λ (z : List Instruction). z ++ g (length z)) e1
    ∙ ap (λ n. (c ++ x) ++ g n) (length-append c x)
    ∙ append_assoc c x (g (length c + length x))

form : (c : List Instruction) (e : Expr) (l : Lays) (x : Expr) → e ≡ x → lay_expr x ≡ l → (b : List Instruction) → b ≡ c ++ l (length c) → b ≡ c ++ lay_expr e (length c)
form c e l x is h b p = p ∙ ap (λ (f : Lays). c ++ f (length c)) (sym (ap lay_expr is ∙ h))

pub host_laid : (c c1 c2 c3 : List Instruction) (e : Expr) (host : HostCode) (a b : Expr) → e ≡ exprs.Host host a b → c1 ≡ c ++ lay_expr a (length c) → c2 ≡ c1 ++ lay_expr b (length c1)
    → c3 ≡ c2 ++ ops.Host host ∷ [] → c3 ≡ c ++ lay_expr e (length c)
host_laid c c1 c2 c3 e host a b is e1 e2 e3 = form c e _ (exprs.Host host a b) is (ap lay_expr (sym (rolls-Host host a b)) ∙ fold-roll-Expr Lays expr_step (Expr-F.Host host a b)) c3
    (emits_then (lay_expr a) (lay_expr b then just (ops.Host host)) c c1 c3 e1 (emits_then (lay_expr b) (just (ops.Host host)) c1 c2 c3 e2 e3))

-- ---- jumps that are written back

module _ (c : List Instruction) (x : Instruction) where
  abbrev a : ℕ
  a = length c

  after_one : length (c ++ x ∷ []) ≡ a + 1
  after_one = length-append c (x ∷ [])

  -- a piece after one instruction
  one_then : (f : Lays) (c1 c2 : List Instruction) → c1 ≡ c ++ x ∷ [] → c2 ≡ c1 ++ f (length c1) → c2 ≡ (c ++ x ∷ []) ++ f (a + 1)
  one_then f c1 c2 e1 e2 = e2 ∙ ap (λ (z : List Instruction). z ++ f (length z)) e1 ∙ ap (λ n. (c ++ x ∷ []) ++ f n) after_one

  one_length : (f : List Instruction) → length ((c ++ x ∷ []) ++ f) ≡ a + 1 + length f
  one_length f = length-append (c ++ x ∷ []) f ∙ ap (λ n. n + length f) after_one

  four_flat : (f : List Instruction) (j p : Instruction) → (((c ++ x ∷ []) ++ f) ++ j ∷ []) ++ p ∷ [] ≡ c ++ x ∷ (f ++ j ∷ p ∷ [])
  four_flat f j p = simp append_assoc refl

  pub and_emits : (g : Lays) (c1 c2 c3 c4 c5 : List Instruction) (test jump : ℕ) → test ≡ length c → c1 ≡ c ++ x ∷ [] → c2 ≡ c1 ++ g (length c1) → jump ≡ length c2
      → c3 ≡ c2 ++ ops.Jump (jump + 2) ∷ [] → c4 ≡ c3 ++ ops.Push (constants.Boolean false) ∷ [] → c5 ≡ slice_set c4 test (ops.Unless (jump + 1)) → c5 ≡ c ++ lay_and g (length c)
  and_emits g c1 c2 c3 c4 c5 test jump t e1 e2 n e3 e4 e5 =
      let f : List Instruction = g (a + 1) in
      let p : Instruction = ops.Push (constants.Boolean false) in
      let d2 : c2 ≡ (c ++ x ∷ []) ++ f = one_then g c1 c2 e1 e2 in
      let m : jump ≡ a + 1 + length f = n ∙ ap length d2 ∙ one_length f in
      let d4 : c4 ≡ c ++ x ∷ (f ++ ops.Jump (jump + 2) ∷ p ∷ []) = e4 ∙ ap (λ (z : List Instruction). z ++ p ∷ []) (e3 ∙ ap (λ (z : List Instruction). z ++ ops.Jump (jump + 2) ∷ []) d2) ∙ four_flat f (ops.Jump (jump + 2)) p in
      e5 ∙ ap (λ (z : List Instruction). slice_set z test (ops.Unless (jump + 1))) d4 ∙ ap (λ k. slice_set (c ++ x ∷ (f ++ ops.Jump (jump + 2) ∷ p ∷ [])) k (ops.Unless (jump + 1))) t
      ∙ set-append_seam c x (f ++ ops.Jump (jump + 2) ∷ p ∷ []) (ops.Unless (jump + 1))
      ∙ ap (λ j. c ++ ops.Unless (j + 1) ∷ (f ++ ops.Jump (j + 2) ∷ p ∷ [])) m

  or_flat : (u p : Instruction) (f : List Instruction) → (((c ++ u ∷ []) ++ p ∷ []) ++ x ∷ []) ++ f ≡ (c ++ u ∷ p ∷ []) ++ x ∷ f
  or_flat u p f = simp append_assoc refl

  two_flat : (u p y : Instruction) (f : List Instruction) → (c ++ u ∷ p ∷ []) ++ y ∷ f ≡ c ++ u ∷ p ∷ y ∷ f
  two_flat u p y f = append_assoc c (u ∷ p ∷ []) (y ∷ f)

  pub or_emits : (g : Lays) (c1 c2 c3 c4 c5 : List Instruction) (test end : ℕ) → test ≡ length c → c1 ≡ c ++ ops.Unless (test + 3) ∷ [] → c2 ≡ c1 ++ ops.Push (constants.Boolean true) ∷ [] → c3 ≡ c2 ++ x ∷ []
      → c4 ≡ c3 ++ g (length c3) → end ≡ length c4 → c5 ≡ slice_set c4 (test + 2) (ops.Jump end) → c5 ≡ c ++ lay_or g (length c)
  or_emits g c1 c2 c3 c4 c5 test end t e1 e2 e3 e4 n e5 =
      let u : Instruction = ops.Unless (test + 3) in
      let p : Instruction = ops.Push (constants.Boolean true) in
      let d3 : c3 ≡ ((c ++ u ∷ []) ++ p ∷ []) ++ x ∷ [] = e3 ∙ ap (λ (z : List Instruction). z ++ x ∷ []) (e2 ∙ ap (λ (z : List Instruction). z ++ p ∷ []) e1) in
      let l3 : length c3 ≡ a + 3 = ap length d3 ∙ simp length-append (omega arith) in
      let f : List Instruction = g (a + 3) in
      let d4 : c4 ≡ (c ++ u ∷ p ∷ []) ++ x ∷ f = e4 ∙ ap (λ k. c3 ++ g k) l3 ∙ ap (λ (z : List Instruction). z ++ f) d3 ∙ or_flat u p f in
      let m : end ≡ a + 3 + length f = n ∙ ap length d4 ∙ simp length-append (omega arith) in
      let k : test + 2 ≡ length (c ++ u ∷ p ∷ []) = ap (λ z. z + 2) t ∙ sym (length-append c (u ∷ p ∷ [])) in
      e5 ∙ ap (λ (z : List Instruction). slice_set z (test + 2) (ops.Jump end)) d4 ∙ ap (λ z. slice_set ((c ++ u ∷ p ∷ []) ++ x ∷ f) z (ops.Jump end)) k
      ∙ set-append_seam (c ++ u ∷ p ∷ []) x f (ops.Jump end) ∙ two_flat u p (ops.Jump end) f
      ∙ ap (λ j. c ++ u ∷ p ∷ ops.Jump j ∷ f) m ∙ ap (λ j. c ++ ops.Unless (j + 3) ∷ p ∷ ops.Jump (a + 3 + length f) ∷ f) t

  choice_flat : (f : List Instruction) (y : Instruction) (g : List Instruction) → (((c ++ x ∷ []) ++ f) ++ y ∷ []) ++ g ≡ c ++ x ∷ (f ++ y ∷ g)
  choice_flat f y g = simp append_assoc refl

  seam : (u y : Instruction) (f g : List Instruction) → c ++ u ∷ (f ++ y ∷ g) ≡ (c ++ u ∷ f) ++ y ∷ g
  seam u y f g = sym (append_assoc c (u ∷ f) (y ∷ g))

  pub choice_emits : (f g : Lays) (c1 c2 c3 c4 c5 c6 : List Instruction) (y : Instruction) (test jump end : ℕ) → test ≡ length c → c1 ≡ c ++ x ∷ [] → c2 ≡ c1 ++ f (length c1) → jump ≡ length c2
      → c3 ≡ c2 ++ y ∷ [] → c4 ≡ c3 ++ g (length c3) → c5 ≡ slice_set c4 test (ops.Unless (jump + 1)) → end ≡ length c5 → c6 ≡ slice_set c5 jump (ops.Jump end) → c6 ≡ c ++ lay_choice f g (length c)
  choice_emits f g c1 c2 c3 c4 c5 c6 y test jump end t e1 e2 n e3 e4 e5 n5 e6 =
      let fs : List Instruction = f (a + 1) in
      let d2 : c2 ≡ (c ++ x ∷ []) ++ fs = one_then f c1 c2 e1 e2 in
      let m : jump ≡ a + 1 + length fs = n ∙ ap length d2 ∙ one_length fs in
      let d3 : c3 ≡ ((c ++ x ∷ []) ++ fs) ++ y ∷ [] = e3 ∙ ap (λ (z : List Instruction). z ++ y ∷ []) d2 in
      let l3 : length c3 ≡ a + 1 + length fs + 1 = ap length d3 ∙ length-append ((c ++ x ∷ []) ++ fs) (y ∷ []) ∙ ap (λ k. k + 1) (one_length fs) in
      let gs : List Instruction = g (a + 1 + length fs + 1) in
      let d4 : c4 ≡ c ++ x ∷ (fs ++ y ∷ gs) = e4 ∙ ap (λ k. c3 ++ g k) l3 ∙ ap (λ (z : List Instruction). z ++ gs) d3 ∙ choice_flat fs y gs in
      let u : Instruction = ops.Unless (jump + 1) in
      let d5 : c5 ≡ (c ++ u ∷ fs) ++ y ∷ gs = e5 ∙ ap (λ (z : List Instruction). slice_set z test u) d4 ∙ ap (λ k. slice_set (c ++ x ∷ (fs ++ y ∷ gs)) k u) t ∙ set-append_seam c x (fs ++ y ∷ gs) u ∙ seam u y fs gs in
      let l5 : length ((c ++ u ∷ fs) ++ y ∷ gs) ≡ a + 1 + length fs + 1 + length gs = simp length-append (omega arith) in
      let l6 : length (c ++ u ∷ fs) ≡ a + 1 + length fs = simp length-append (omega arith) in
      e6 ∙ ap (λ (z : List Instruction). slice_set z jump (ops.Jump end)) d5 ∙ ap (λ k. slice_set ((c ++ u ∷ fs) ++ y ∷ gs) k (ops.Jump end)) (m ∙ sym l6)
      ∙ set-append_seam (c ++ u ∷ fs) y gs (ops.Jump end) ∙ append_assoc c (u ∷ fs) (ops.Jump end ∷ gs)
      ∙ ap (λ k. c ++ u ∷ (fs ++ ops.Jump k ∷ gs)) (n5 ∙ ap length d5 ∙ l5)
      ∙ ap (λ k. c ++ ops.Unless (k + 1) ∷ (fs ++ ops.Jump (a + 1 + length fs + 1 + length gs) ∷ gs)) m

  loop_flat : (t : Instruction) (f d : List Instruction) (u j : Instruction) → (((((c ++ x ∷ []) ++ t ∷ []) ++ f) ++ d) ++ u ∷ []) ++ j ∷ [] ≡ c ++ x ∷ t ∷ (f ++ (d ++ u ∷ j ∷ []))
  loop_flat t f d u j = simp append_assoc refl

  pub loop_emits : (cond f : Lays) (c1 c2 c3 c4 c5 c6 c7 : List Instruction) (start test end : ℕ) → start ≡ length c → c1 ≡ c ++ x ∷ [] → c2 ≡ c1 ++ ops.Turn ∷ [] → c3 ≡ c2 ++ f (length c2) → test ≡ length c3
      → c4 ≡ c3 ++ cond (length c3) → end ≡ length c4 → c5 ≡ c4 ++ ops.Unless (end + 2) ∷ [] → c6 ≡ c5 ++ ops.Jump (start + 1) ∷ [] → c7 ≡ slice_set c6 start (ops.Jump test) → c7 ≡ c ++ lay_loop cond f (length c)
  loop_emits cond f c1 c2 c3 c4 c5 c6 c7 start test end t e1 e2 e3 n e4 n4 e5 e6 e7 =
      let b : List Instruction = (c ++ x ∷ []) ++ ops.Turn ∷ [] in
      let d2 : c2 ≡ b = e2 ∙ ap (λ (z : List Instruction). z ++ ops.Turn ∷ []) e1 in
      let l2 : length b ≡ a + 2 = simp length-append (omega arith) in
      let fs : List Instruction = f (a + 2) in
      let d3 : c3 ≡ b ++ fs = e3 ∙ ap (λ (z : List Instruction). z ++ f (length z)) d2 ∙ ap (λ k. b ++ f k) l2 in
      let l3 : length (b ++ fs) ≡ a + 2 + length fs = length-append b fs ∙ ap (λ k. k + length fs) l2 in
      let m : test ≡ a + 2 + length fs = n ∙ ap length d3 ∙ l3 in
      let ds : List Instruction = cond (a + 2 + length fs) in
      let d4 : c4 ≡ (b ++ fs) ++ ds = e4 ∙ ap (λ (z : List Instruction). z ++ cond (length z)) d3 ∙ ap (λ k. (b ++ fs) ++ cond k) l3 in
      let m4 : end ≡ a + 2 + length fs + length ds = n4 ∙ ap length d4 ∙ length-append (b ++ fs) ds ∙ ap (λ k. k + length ds) l3 in
      let u : Instruction = ops.Unless (end + 2) in
      let j : Instruction = ops.Jump (start + 1) in
      let d6 : c6 ≡ c ++ x ∷ ops.Turn ∷ (fs ++ (ds ++ u ∷ j ∷ [])) = e6 ∙ ap (λ (z : List Instruction). z ++ j ∷ []) (e5 ∙ ap (λ (z : List Instruction). z ++ u ∷ []) d4) ∙ loop_flat ops.Turn fs ds u j in
      let rest : List Instruction = ops.Turn ∷ (fs ++ (ds ++ u ∷ j ∷ [])) in
      e7 ∙ ap (λ (z : List Instruction). slice_set z start (ops.Jump test)) d6 ∙ ap (λ k. slice_set (c ++ x ∷ rest) k (ops.Jump test)) t ∙ set-append_seam c x rest (ops.Jump test)
      ∙ ap (λ k. c ++ ops.Jump k ∷ rest) m
      ∙ ap (λ k. c ++ ops.Jump (a + 2 + length fs) ∷ ops.Turn ∷ (fs ++ (ds ++ ops.Unless (k + 2) ∷ j ∷ []))) m4
      ∙ ap (λ k. c ++ ops.Jump (a + 2 + length fs) ∷ ops.Turn ∷ (fs ++ (ds ++ ops.Unless (a + 2 + length fs + length ds + 2) ∷ ops.Jump (k + 1) ∷ []))) t
