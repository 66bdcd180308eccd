-- What is known of a method that is found: its class is an ancestor, which introduces it.
use Rattle.std.proofs.Common.{◌≡◌, ℕ, ◌<◌, true, List, length, Option, Some, None, Result, Ok, refl, sym, ap, ◌∙◌, subst}
use Rattle.som_model.specs.declared.key.ClassKey.{ClassKey}
use Rattle.som_model.specs.declared.key.MethodRef.{MethodRef}
use Rattle.som_model.specs.declared.key.ValueType.TheVariants as types
use Rattle.som_model.specs.declared.class.Sig.{Sig}
use Rattle.som_model.specs.declared.class.Entry.{Entry}
use Rattle.som_model.specs.declared.class.Entry.TheVariants as entries
use Rattle.som_model.specs.Class.{Class, introduced_sig}
use Rattle.som_model.specs.Classes.{ancestors, hierarchy, is_a}
use Rattle.som_model.specs.Lists.{Mem, find}
use Rattle.som_model.specs.Owner.{entry_at, introduces, sig_of}
use Rattle.som_model.specs.Steps.{◌>>=◌}
use Rattle.som_model.specs.Typing.{ExprType, Of, PlainNil, Typed, all_fit, class_facts, descends_to, needs, offset_call_type, there}
use Rattle.som_model.proofs.KeyLaws.{exact_keys}
use Rattle.som_model.proofs.NamedLaws.{hierarchy_same}
use Rattle.som_model_laws.proofs.Members.{find_first, mem_some}
use Rattle.som_model_laws.proofs.Owners.{moved_to, stays}
use Rattle.som_verify_classes.specs.Walk.{AreLists}
use Rattle.som_verify_classes.proofs.Owners.{mem_middle}
use Rattle.som_verify_forms.specs.declared.kind.Kind.{Kind}
use Rattle.som_verify_forms.specs.Kinds.{Comes}
use Rattle.som_verify_forms.specs.Knowing.{NamesKnown, sig_is_known}
use Rattle.som_verify_forms.proofs.Facts.{descent_said, signature_said}
use Rattle.som_elab_body.specs.declared.methods.FoundMethod.{FoundMethod}
use Rattle.som_elab_body.specs.Forms.{method_at}
use Rattle.som_elab_body.specs.Methods.{Method, introduced_method, method_by, method_for, method_of}
use Rattle.som_elab_body.proofs.MethodLaws.{entry_here, none_some}

-- the class of a method that is found is an ancestor, and the entry that it has for the name introduces it
pub record IsFound (cs : List Class) (k : ClassKey) (m : Method) : Type 0 where
  pub above : is_a cs k m.ref.class ≡ true
  pub signed : introduced_sig (entry_at cs m.ref.class m.ref.name) ≡ Some m.sig
  pub unmoved : moved_to (entry_at cs m.ref.class m.ref.name) ≡ None

-- an ancestor is one
ancestor_above : (cs : List Class) (k a : ClassKey) → Mem a (ancestors cs k) → is_a cs k a ≡ true
ancestor_above cs k a m = mem_some ((hierarchy cs).same a) a (ancestors cs k) m (hierarchy_same cs a a ∙ exact_keys.one a)

module _ (cs : List Class) (k : ClassKey) (name : List ℕ) (m : Method) where
  -- the method is that of an entry which introduces it
  by_entry : (a : ClassKey) → Mem a (ancestors cs k) → (e : Option Entry) → entry_at cs a name ≡ e → introduced_method (record { class = a; name = name }) e ≡ Some m → IsFound cs k m
  by_entry a above None is h = absurd (none_some h)
  by_entry a above (Some (entries.Introduced n sig way)) is h =
      let same : record { ref = record { class = a; name = name }; sig = sig; way = way } ≡ m = cc in
      subst (IsFound cs k) same (record {
        above = ancestor_above cs k a above;
        signed = ap introduced_sig is;
        unmoved = ap moved_to is;
      })
  by_entry a above (Some (entries.Moved n to)) is h = absurd (none_some h)

  by_class : (o : Option ClassKey) → find (introduces cs name) (ancestors cs k) ≡ o → method_by cs name o ≡ Some m → IsFound cs k m
  by_class None is h = absurd (none_some h)
  by_class (Some a) is h =
      let first = find_first (introduces cs name) (ancestors cs k) a is in
      by_entry a (mem_middle (ancestors cs k) first.before first.after a first.parts) (entry_at cs a name) refl h

  -- the method of a class
  pub method_is : method_of cs k name ≡ Some m → IsFound cs k m
  method_is h = by_class (find (introduces cs name) (ancestors cs k)) refl h

-- what is asked of a call by offset, and the type that it then has
abbrev fitting : List Class → Sig → List ExprType → Typed
fitting cs sig ts = needs 18 (all_fit (class_facts cs) sig.params ts) (Ok (Of sig.result))

module _ (cs : List Class) (m : Method) (ts : List ExprType) where
  -- the receiver's class descends from that of the method, which has a signature
  of_class : (k : ClassKey) → IsFound cs k m → offset_call_type (class_facts cs) m.ref (Of (types.Class k)) ts ≡ fitting cs m.sig ts
  of_class k f =
      let owned = stays cs ((hierarchy cs).height m.ref.class) m.ref f.unmoved in
      let signed : (class_facts cs).signature m.ref ≡ Some m.sig = signature_said cs m.ref ∙ ap (sig_of cs) owned ∙ f.signed in
      let below : (class_facts cs).is_a k m.ref.class ≡ true = descent_said cs k m.ref.class ∙ f.above in
      ap (λ o. there 16 o >>= λ (sig : Sig). needs 17 (descends_to (class_facts cs) m.ref.class (Of (types.Class k))) (fitting cs sig ts)) signed
      ∙ ap (λ b. needs 17 b (fitting cs m.sig ts)) below

  -- a call by offset of the method that the receiver has asks only for arguments that fit
  pub found_typed : (t : ExprType) (name : List ℕ) → method_for cs t name ≡ Some m → offset_call_type (class_facts cs) m.ref t ts ≡ fitting cs m.sig ts
  found_typed (Of types.Void) name h = absurd (none_some h)
  found_typed (Of types.Long) name h = absurd (none_some h)
  found_typed (Of types.Boolean) name h = absurd (none_some h)
  found_typed (Of types.Str) name h = absurd (none_some h)
  found_typed (Of (types.Class k)) name h = of_class k (method_is cs k name m h)
  found_typed PlainNil name h = absurd (none_some h)

  pub offset_comes : (t : ExprType) (name : List ℕ) (r : MethodRef) (kind : Result Kind ℕ) → r ≡ m.ref → method_for cs t name ≡ Some m → Comes cs (fitting cs m.sig ts) kind
      → Comes cs (offset_call_type (class_facts cs) r t ts) kind
  offset_comes t name r kind is h comes =
      subst (λ z. Comes cs (offset_call_type (class_facts cs) z t ts) kind) (sym is)
      (subst (λ z. Comes cs z kind) (sym (found_typed t name h)) comes)

module _ (cs : List Class) (all : List (List ℕ)) (lists : AreLists cs all) (known : NamesKnown cs) (name : List ℕ) (m : FoundMethod) (within : m.class < length cs) where
  known_by : (k : ClassKey) → IsFound cs k (method_at cs name m) → sig_is_known cs m.sig.now ≡ true
  known_by k f = known.signatures m.class name m.sig.now within (ap introduced_sig (sym (entry_here cs all lists name m.class within)) ∙ f.signed)

  -- the types of its signature are known
  pub found_known : (t : ExprType) → method_for cs t name ≡ Some (method_at cs name m) → sig_is_known cs m.sig.now ≡ true
  found_known (Of types.Void) h = absurd (none_some h)
  found_known (Of types.Long) h = absurd (none_some h)
  found_known (Of types.Boolean) h = absurd (none_some h)
  found_known (Of types.Str) h = absurd (none_some h)
  found_known (Of (types.Class k)) h = known_by k (method_is cs k name (method_at cs name m) h)
  found_known PlainNil h = absurd (none_some h)
