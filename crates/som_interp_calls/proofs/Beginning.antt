-- The call of the bodies of all parents begins, and the parent at a place.
use Rattle.std.proofs.Common.{◌≡◌, ◌-◌, ◌<◌, ◌≤◌, ℕ, zero, suc, Bool, true, List, [], ◌∷◌, ◌++◌, length, map, drop, Some, None, Result, slice_get, slice_index_or, refl, sym, ap, subst, ◌∙◌, arith}
use Rattle.std.specs.List.{All}
use Rattle.std.proofs.lemmas.List.Elements.{All-drop, All-take}
use Rattle.som_model.specs.declared.key.ClassKey.{ClassKey}
use Rattle.som_model.specs.declared.key.MethodRef.{MethodRef}
use Rattle.som_model.specs.declared.syntax.Block.{Block}
use Rattle.som_model.specs.Lists.{Mem}
use Rattle.som_model.specs.Kernel.{som_object}
use Rattle.som_semantics.specs.World.{World}
use Rattle.som_semantics.specs.Calls.{class_here, parent_at}
use Rattle.som_meta.specs.Numbering.{Numbering}
use Rattle.som_model_laws.proofs.Lists.{get_mem}
use Rattle.som_code.specs.declared.instruction.Instruction.TheVariants as ops
use Rattle.som_code.specs.Effect.{arguments}
use Rattle.som_machine_laws.specs.Frames as frames
use Rattle.som_machine_laws.specs.Step.{goes_past, next_parent, obey_at}
use Rattle.som_objects.specs.declared.cell.Cell.{Cell}
use Rattle.som_objects.specs.Objects.{Objects}
use Rattle.som_values.specs.Shown.{IsNumbered, all_shown, key_of}
use Rattle.som_interp_state.specs.declared.body.Body.{Body}
use Rattle.som_interp_state.specs.declared.frames.Frames.{Frames}
use Rattle.som_interp_state.specs.declared.frames.Now.{Now}
use Rattle.som_interp_state.specs.declared.frames.Waiting.TheVariants as waits
use Rattle.som_interp_state.specs.declared.task.Task.{Task}
use Rattle.som_interp_state.specs.Settings.{Linked, Setting, shows}
use Rattle.som_interp_state.specs.Standing.{body_shown}
use Rattle.std.proofs.lemmas.List.{length-map}
use Rattle.som_interp_state.specs.Asked.{IsClosed}
use Rattle.som_interp_state.specs.Holding.{IsUsable}
use Rattle.som_interp_state.specs.Named.{IsMadeClass}
use Rattle.som_interp_calls.proofs.Firsts.{get_map}
use Rattle.som_interp_loop.specs.declared.stop.Stop.{Stop}
use Rattle.som_interp_loop.specs.Scene.{Scene, scene, setting_of}
use Rattle.som_interp_ops.specs.Cells.{values_of}
use Rattle.som_interp_loop.specs.NextInstruction.{act_of, next_of}
use Rattle.som_interp_calls.specs.Calling.{ComesTo}
use Rattle.som_interp_calls.specs.Parents.{Nexts}
use Rattle.som_interp_calls.proofs.Arguments.{arguments_shown, kept_shown}
use Rattle.som_interp_calls.proofs.Offset.{kept, taken}
use Rattle.som_interp_calls.proofs.Pushing.{around_one, operands_usable, past}
use Rattle.som_interp_calls.proofs.Upwards.{me_usable}

drop_none : {A : Type 0} (xs : List A) → drop 0 xs ≡ xs
drop_none [] = refl
drop_none (x ∷ xs) = refl

module _ (l : Linked) (kn : Numbering) (main : Block) (made : ClassKey → Bool) (os : Objects) (t : Task) (mid fr : Frames) (f : ℕ) (b : Body) (r : MethodRef) (n : ℕ) (is : next_of (scene l kn main made os t f) b ≡ Some (ops.ParentsCall r n)) (args : List Cell) (args_are : args ≡ taken b.operands.items n) (result : Result Now Stop) where
  abbrev earlier : Scene
  earlier = scene l kn main made os t f

  abbrev between : Scene
  between = scene l kn main made os (record t { frames = mid }) f

  abbrev later : Scene
  later = scene l kn main made os (record t { frames = fr }) f

  abbrev set : Setting
  set = setting_of earlier

  abbrev items : List Cell
  items = b.operands.items

  abbrev FromBody : Body → Type 0
  FromBody z = mid.waiting.items ≡ t.frames.waiting.items ++ waits.Call z ∷ [] → Nexts between later z.levels z.me z.place 0 z.code r args result → ComesTo earlier later b result []

  begins : (v : Body) → v.operands.items ≡ kept items n → FromBody (past b v)
  begins v rest pushed nexts ws s runs fuel =
      let P = IsUsable l made t.serials os in
      let all = operands_usable earlier b s.heap ws runs in
      let bs = body_shown set b in
      let st = bs.conf.stack in
      let ps = l.world.parents (class_here bs.here) in
      nexts (act_of earlier b ws) (frames.ForCall (body_shown set (past b v)) ∷ ws) s
      (around_one l kn main made made (λ k e. e) os t mid f b v s.heap ws runs (subst (All P) (sym rest) (All-take P (length items - n) items all)) pushed)
      (me_usable l made set os b.me refl runs.next.own.me runs.next.made_of.here.me) runs.next.own.place runs.next.made_of.here.place
      (subst (All P) (sym args_are) (All-drop P (length items - n) items all)) runs.next.own.code fuel
      (ap (λ i. (obey_at l.world i bs ws).does s) is
      ∙ ap (λ x. (next_parent l.world b.levels bs.here ps r (arguments n st) (frames.ForCall (goes_past bs x) ∷ ws)).does s) (sym (ap (values_of (shows set)) rest ∙ kept_shown (shows set) items n))
      ∙ ap (λ x. (next_parent l.world b.levels bs.here ps r x (frames.ForCall (body_shown set (past b v)) ∷ ws)).does s) (sym (ap (all_shown (shows set)) args_are ∙ arguments_shown (shows set) items n))
      ∙ ap (λ x. (next_parent l.world b.levels bs.here x r (all_shown (shows set) args) (frames.ForCall (body_shown set (past b v)) ∷ ws)).does s) (sym (drop_none ps)))

  pub parents_begin : (z : Body) → z ≡ past b z → z.operands.items ≡ kept items n → FromBody z
  parents_begin z same rest = subst FromBody (sym same) (begins z rest)

-- ---- the parent at a place

get_past : {A : Type 0} (xs : List A) (i : ℕ) → length xs ≤ i → slice_get xs i ≡ None
get_past [] zero le = refl
get_past [] (suc i) le = refl
get_past (x ∷ xs) zero le = absurd (let f : ⊥ = omega (arith, le) in f)
get_past (x ∷ xs) (suc i) le = get_past xs i (omega (arith, le))

module _ (ks : List ClassKey) (w : World) (l : Linked) (made : ClassKey → Bool) (closed : IsClosed w made) (keys : l.keys ≡ ks) (world : l.world ≡ w) (k : ClassKey) (class : ℕ) (class_is : key_of ks class ≡ k) (class_made : made k ≡ true)
    (ns : List ℕ) (are : map (key_of ks) ns ≡ w.parents (key_of ks class)) (numbered : All (IsNumbered ks) ns) where
  parents_are : map (key_of ks) ns ≡ l.world.parents k
  parents_are = are ∙ ap w.parents class_is ∙ sym (ap (λ (v : World). v.parents k) world)

  module _ (i x : ℕ) (lt : i < length ns) (same : x ≡ slice_index_or ns i x) where
    there : slice_get (map (key_of ks) ns) i ≡ Some (key_of ks x)
    there = get_map (key_of ks) ns i x lt ∙ ap (λ n. Some (key_of ks n)) (sym same)

    pub at_made : IsMadeClass l made x
    at_made =
        let mem : Mem (key_of ks x) (w.parents k) = subst (λ ps. Mem (key_of ks x) ps) (are ∙ ap w.parents class_is) (get_mem (map (key_of ks) ns) i (key_of ks x) there) in
        (subst (λ z. IsNumbered z x) (sym keys) (subst (IsNumbered ks) (sym same) (numbered i x lt)), ap (λ z. made (key_of z x)) keys ∙ closed.parents k (key_of ks x) class_made mem)

    pub at_key : key_of l.keys x ≡ parent_at (l.world.parents k) i
    at_key = ap (λ z. key_of z x) keys ∙ sym (ap (λ ps. elim (slice_get ps i) [ None ↦ som_object | Some p ↦ p ]) (sym parents_are) ∙ ap (λ o. elim o [ None ↦ som_object | Some p ↦ p ]) there)

  pub past_key : (i z : ℕ) → length ns ≤ i → key_of ks z ≡ som_object → key_of l.keys z ≡ parent_at (l.world.parents k) i
  past_key i z le root =
      let le_map : length (map (key_of ks) ns) ≤ i = (let e = length-map ns (key_of ks) in omega (arith, le, e)) in
      ap (λ u. key_of u z) keys ∙ root ∙ sym (ap (λ ps. elim (slice_get ps i) [ None ↦ som_object | Some p ↦ p ]) (sym parents_are) ∙ ap (λ o. elim o [ None ↦ som_object | Some p ↦ p ]) (get_past (map (key_of ks) ns) i le_map))

  pub past_made : (z : ℕ) → IsNumbered ks z → key_of ks z ≡ som_object → IsMadeClass l made z
  past_made z num root = (subst (λ u. IsNumbered u z) (sym keys) num, ap (λ u. made (key_of u z)) keys ∙ ap made root ∙ closed.object)
