-- The variables of class objects stay those in their cells.
use Rattle.std.proofs.Common.{◌≡◌, ◌≢◌, ℕ, inl, inr, Bool, true, false, List, ◌++◌, Option, Some, None, slice_get, slice_set, if◌then◌else◌, refl, sym, ap, subst, ◌∙◌}
use Rattle.std.specs.Option.{option_flatten}
use Rattle.std.proofs.lemmas.Bool.{cases_eq}
use Rattle.som_model.specs.declared.key.ClassKey.{ClassKey}
use Rattle.som_model.specs.Keys.{same_key}
use Rattle.som_semantics.specs.State.{Heap, Variables, ClassObject, write, put}
use Rattle.som_model.proofs.KeyLaws.{exact_keys}
use Rattle.som_objects.specs.declared.cell.Cell.{Cell}
use Rattle.som_objects.specs.Objects.{Objects, KeepsKnown}
use Rattle.som_values.specs.Shown.{key_of, shown, showing, IsNumbered}
use Rattle.som_values.specs.Variables.{Places}
use Rattle.som_interp_state.specs.Settings.{Linked, IsLinked}
use Rattle.som_interp_state.specs.Own.{IsOwn}
use Rattle.som_interp_state.specs.Stored.{HoldVariables, HoldsStatic, HoldsStatics}
use Rattle.som_interp_state.proofs.Objects.{variables_later, variables_still, variables_put}

static_later : (k : Linked) (xs ys : List ℕ) (os os' : Objects) → KeepsKnown os os' → (places : Places) (o : Option (List Cell)) (vars : Variables) → HoldsStatic k xs os places o vars → HoldsStatic k (xs ++ ys) os' places o vars
static_later k xs ys os os' keeps places None vars h = h
static_later k xs ys os os' keeps places (Some cs) vars h = variables_later k xs ys os os' keeps places cs vars h

static_still : (k : Linked) (xs : List ℕ) (os os' : Objects) → KeepsKnown os os' → (places : Places) (o : Option (List Cell)) (vars : Variables) → HoldsStatic k xs os places o vars → HoldsStatic k xs os' places o vars
static_still k xs os os' keeps places None vars h = h
static_still k xs os os' keeps places (Some cs) vars h = variables_still k xs os os' keeps places cs vars h

-- where objects are made
pub statics_later : (k : Linked) (xs ys : List ℕ) (os os' : Objects) (statics : List (Option (List Cell))) (h h' : Heap) → KeepsKnown os os' → ((c : ClassKey) → h'.statics c ≡ h.statics c) → HoldsStatics k xs os statics h → HoldsStatics k (xs ++ ys) os' statics h'
statics_later k xs ys os os' statics h h' keeps same held = record {
  by = λ n numbered. subst (λ (v : Variables). HoldsStatic k (xs ++ ys) os' (k.statics n) (option_flatten (slice_get statics n)) v) (sym (same (key_of k.keys n)))
      (static_later k xs ys os os' keeps (k.statics n) (option_flatten (slice_get statics n)) (h.statics (key_of k.keys n)) (held.by n numbered));
}

-- where objects change
pub statics_still : (k : Linked) (xs : List ℕ) (os os' : Objects) (statics : List (Option (List Cell))) (h h' : Heap) → KeepsKnown os os' → ((c : ClassKey) → h'.statics c ≡ h.statics c) → HoldsStatics k xs os statics h → HoldsStatics k xs os' statics h'
statics_still k xs os os' statics h h' keeps same held = record {
  by = λ n numbered. subst (λ (v : Variables). HoldsStatic k xs os' (k.statics n) (option_flatten (slice_get statics n)) v) (sym (same (key_of k.keys n)))
      (static_still k xs os os' keeps (k.statics n) (option_flatten (slice_get statics n)) (h.statics (key_of k.keys n)) (held.by n numbered));
}

-- ---- a class object is written

chosen_true : (b : Bool) (v w : Variables) → b ≡ true → (if b then v else w) ≡ v
chosen_true true v w e = refl
chosen_true false v w e = cc

chosen_false : (b : Bool) (v w : Variables) → (b ≡ true → ⊥) → (if b then v else w) ≡ w
chosen_false true v w f = absurd (f refl)
chosen_false false v w f = refl

-- the cells of one class change, and the variables of its class object
pub statics_changed : (k : Linked) → IsLinked k → (xs : List ℕ) (os : Objects) (old new : List (Option (List Cell))) (h h' : Heap) (n : ℕ) (cs : List Cell) (vars : Variables) → IsNumbered k.keys n
    → option_flatten (slice_get new n) ≡ Some cs → ((m : ℕ) → m ≢ n → option_flatten (slice_get new m) ≡ option_flatten (slice_get old m))
    → ((x : ClassKey) → h'.statics x ≡ (if same_key x (key_of k.keys n) then vars else h.statics x))
    → HoldVariables k xs os (k.statics n) cs vars → HoldsStatics k xs os old h → HoldsStatics k xs os new h'
statics_changed k l xs os old new h h' n cs vars numbered at others same one held = record {
  by = λ m numbered_m. elim (cases_eq m n) [
    | inl e ↦ subst (λ j. HoldsStatic k xs os (k.statics j) (option_flatten (slice_get new j)) (h'.statics (key_of k.keys j))) (sym e)
        (subst (λ (o : Option (List Cell)). HoldsStatic k xs os (k.statics n) o (h'.statics (key_of k.keys n))) (sym at)
        (subst (λ (v : Variables). HoldVariables k xs os (k.statics n) cs v) (sym (same (key_of k.keys n) ∙ chosen_true _ _ _ (exact_keys.one (key_of k.keys n)))) one))
    | inr ne ↦ subst (λ (o : Option (List Cell)). HoldsStatic k xs os (k.statics m) o (h'.statics (key_of k.keys m))) (sym (others m ne))
        (subst (λ (v : Variables). HoldsStatic k xs os (k.statics m) (option_flatten (slice_get old m)) v)
        (sym (same (key_of k.keys m) ∙ chosen_false _ _ _ (λ e. ne (l.apart m n numbered_m numbered (exact_keys.two (key_of k.keys m) (key_of k.keys n) e)))))
        (held.by m numbered_m))
  ];
}

-- a variable of a class object is written, in its cells and in the heap
pub statics_written : (k : Linked) → IsLinked k → (xs : List ℕ) (os : Objects) (old new : List (Option (List Cell))) (h : Heap) (n : ℕ) (c : ClassKey) (m p : ℕ) (cs : List Cell) (cell : Cell) → IsNumbered k.keys n
    → option_flatten (slice_get new n) ≡ Some (slice_set cs p cell) → ((i : ℕ) → i ≢ n → option_flatten (slice_get new i) ≡ option_flatten (slice_get old i))
    → k.statics n c m ≡ Some p → IsOwn (showing k.keys xs) os cell → HoldVariables k xs os (k.statics n) cs (h.statics (key_of k.keys n)) → HoldsStatics k xs os old h
    → HoldsStatics k xs os new (write (ClassObject (key_of k.keys n)) c m (shown (showing k.keys xs) cell) h)
statics_written k l xs os old new h n c m p cs cell numbered at others place own before held =
    statics_changed k l xs os old new h (write (ClassObject (key_of k.keys n)) c m (shown (showing k.keys xs) cell) h) n (slice_set cs p cell) (put c m (shown (showing k.keys xs) cell) (h.statics (key_of k.keys n))) numbered at others
    (λ x. by_key x (same_key x (key_of k.keys n)) refl)
    (variables_put k l xs os c m p cell own (k.statics n) cs (h.statics (key_of k.keys n)) (l.statics n numbered) place before) held
  where
    by_key : (x : ClassKey) (b : Bool) → same_key x (key_of k.keys n) ≡ b → (if b then put c m (shown (showing k.keys xs) cell) (h.statics x) else h.statics x) ≡ (if b then put c m (shown (showing k.keys xs) cell) (h.statics (key_of k.keys n)) else h.statics x)
    by_key x true e = ap (λ y. put c m (shown (showing k.keys xs) cell) (h.statics y)) (exact_keys.two x (key_of k.keys n) e)
    by_key x false e = refl
