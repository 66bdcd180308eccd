-- The classes and types that names in W's texts stand for.
use Rattle.std.proofs.Common.{◌≡◌, ℕ, inl, inr, Bool, true, false, not, ◌==◌, if◌then◌else◌, List, [], ◌∷◌, Option, Some, None, is_some, refl, sym, ap, ◌∙◌, subst, true≢false}
use Rattle.std.specs.Prelude.{unwrap_or}
use Rattle.som_model.specs.declared.key.Module.{Module}
use Rattle.som_model.specs.declared.key.Module.TheVariants as modules
use Rattle.som_model.specs.declared.key.ClassKey.{ClassKey}
use Rattle.som_model.specs.declared.key.ClassKey.TheOpen.{ClassKey-F}
use Rattle.som_model.specs.declared.key.ClassKey.TheVariants as keys
use Rattle.som_model.specs.declared.key.ValueType.{ValueType}
use Rattle.som_model.specs.declared.key.ValueType.TheVariants as types
use Rattle.som_model.specs.declared.class.ClassFace.{ClassFace}
use Rattle.som_model.specs.declared.program.Interface.{Interface}
use Rattle.som_model.specs.Lists.{Mem, among, every}
use Rattle.som_model.specs.Class.{Class, bare, class_in}
use Rattle.som_model.specs.Classes.{class_at, interface_classes}
use Rattle.som_model.specs.Kernel.{kernel, kernel_interface}
use Rattle.som_model.specs.Rules.{is_known, is_value_type, name_of}
use Rattle.som_model.specs.Compatible.{layer_name, release_of}
use Rattle.som_model.proofs.ListLaws.{is_false}
use Rattle.som_model.proofs.NamedLaws.{out_named}
use Rattle.som_model_laws.proofs.Laws.{among_mem}
use Rattle.som_model_laws.proofs.Lists.{every_mem, map_mem, mem_map}
use Rattle.som_model_laws.proofs.Members.{mem_split, not_true}
use Rattle.som_model_laws.proofs.Standing.{found_is}
use Rattle.som_sema_scope.specs.ClassNames.{face_names, kernel_names, key_of, module_by_names, result_of, type_of}
use Rattle.som_sema_scope.specs.Words.{once}
use Rattle.som_sema.proofs.Passing.{among_once}
use Rattle.som_breach_laws.proofs.Moving.{Stands}
use Rattle.som_breach_laws.proofs.Pairs.{library_key}
use Rattle.som_witness.specs.Program.{IsW, class_names, numbered_w, w_name}
use Rattle.som_witness.specs.Wording.{class_text}
use Rattle.som_witness.proofs.Holding.{Holds}
use Rattle.som_witness_texts.specs.Trees.{result_at, type_at}

-- the modules of the classes that names stand for, where W is the only class of the client
abbrev pub module_named : Interface → List ℕ → List ℕ → Module
module_named old w = module_by_names modules.Client (w ∷ []) (once (face_names old.classes)) kernel_names

-- the name of a declared class
pub text_named : (m : Module) (name : List ℕ) → class_text (keys.Named m name) ≡ name
text_named m name = ap (λ (z : ClassKey-F ClassKey). unwrap_or (layer_name z) []) (out_named m name)

kernel_named : every (λ (f : ClassFace). among f.name kernel_names) kernel_interface.classes ≡ true
kernel_named = refl

-- ---- W's name is no other class's

abbrev begins_with_w : List ℕ → Bool
begins_with_w [] = false
begins_with_w (b ∷ bs) = b == 87

kernel_begins : every (λ (c : Class). not (begins_with_w (name_of c))) kernel ≡ true
kernel_begins = refl

w_begins : (n : ℕ) → begins_with_w (numbered_w n) ≡ true
w_begins n = refl

pub w_is_free : (old : Interface) → IsW old (w_name old) → (c : Class) → Mem c (release_of old) → name_of c ≡ w_name old → ⊥
w_is_free old is c m e = elim (mem_split c kernel (interface_classes old) m) [
  | inl a ↦ true≢false (sym (ap begins_with_w (e ∙ is.is) ∙ w_begins is.number) ∙ is_false (begins_with_w (name_of c)) (every_mem (λ (c : Class). not (begins_with_w (name_of c))) c kernel kernel_begins a))
  | inr b ↦ (
      let f = map_mem (λ (f : ClassFace). class_in modules.Library (bare f)) c old.classes b in
      let there = mem_map (λ (f : ClassFace). f.name) f.0 old.classes f.1 in
      let here : Mem (w_name old) (class_names old) = subst (λ z. Mem z (class_names old)) (ap name_of (sym f.2) ∙ e) there in
      true≢false (sym ((among_mem (w_name old) (class_names old)).1 here) ∙ is.free))
]

-- ---- what stands for a class

some_class : (o : Option Class) → is_some o ≡ true → (c : Class) × (o ≡ Some c)
some_class None e = absurd (true≢false (sym e))
some_class (Some c) e = (c, refl)

-- a class that is known
pub class_known : (cs : List Class) (k : ClassKey) → is_some (class_at cs k) ≡ true → (c : Class) × (class_at cs k ≡ Some c)
class_known cs k e = some_class (class_at cs k) e

module _ (old : Interface) (so : Stands old) (holds : Holds old) (w : List ℕ) (free : (c : Class) → Mem c (release_of old) → name_of c ≡ w → ⊥) where
  abbrev olds : List Class
  olds = interface_classes old

  abbrev O : List Class
  O = release_of old

  abbrev M : List ℕ → Module
  M = module_named old w

  -- by the three tests in turn
  abbrev chosen : Bool → Bool → Bool → Module
  chosen own base kernels = if own then modules.Client else (if base then modules.Library else (if kernels then modules.Kernel else modules.Client))

  not_own : (c : Class) → Mem c O → among (name_of c) (w ∷ []) ≡ false
  not_own c m = not_true (among (name_of c) (w ∷ [])) (λ t. elim ((among_mem (name_of c) (w ∷ [])).0 t) [ inl e ↦ free c m e | inr z ↦ z ])

  face_of : (c : Class) → Mem c olds → Mem (name_of c) (face_names old.classes)
  face_of c m =
      let f = map_mem (λ (f : ClassFace). class_in modules.Library (bare f)) c old.classes m in
      subst (λ (z : Class). Mem (name_of z) (face_names old.classes)) (sym f.2) (mem_map (λ (f : ClassFace). f.name) f.0 old.classes f.1)

  class_of : (x : List ℕ) → Mem x (face_names old.classes) → (c : Class) × Mem c olds × (x ≡ name_of c)
  class_of x m =
      let f = map_mem (λ (f : ClassFace). f.name) x old.classes m in
      (class_in modules.Library (bare f.0), mem_map (λ (f : ClassFace). class_in modules.Library (bare f)) f.0 old.classes f.1, f.2)

  library_module : (c : Class) → Mem c O → Mem c olds → M (name_of c) ≡ modules.Library
  library_module c n m =
      let x = name_of c in
      let base : among x (once (face_names old.classes)) ≡ true = among_once x (face_names old.classes) ∙ (among_mem x (face_names old.classes)).1 (face_of c m) in
      ap (λ (b : Bool). chosen b (among x (once (face_names old.classes))) (among x kernel_names)) (not_own c n)
      ∙ ap (λ (b : Bool). chosen false b (among x kernel_names)) base

  kernel_module : (c : Class) → Mem c O → Mem c kernel → among (name_of c) kernel_names ≡ true → M (name_of c) ≡ modules.Kernel
  kernel_module c n m known =
      let x = name_of c in
      let base : among x (once (face_names old.classes)) ≡ false = not_true (among x (once (face_names old.classes))) (λ t. (
      let d = class_of x ((among_mem x (face_names old.classes)).0 (sym (among_once x (face_names old.classes)) ∙ t)) in
      holds.classes.names.kernels c d.0 m d.1 d.2)) in
      ap (λ (b : Bool). chosen b (among x (once (face_names old.classes))) (among x kernel_names)) (not_own c n)
      ∙ ap (λ (b : Bool). chosen false b (among x kernel_names)) base
      ∙ ap (λ (b : Bool). chosen false false b) known

  -- each class is the one that its name stands for
  own_key : (c : Class) → Mem c O → c.key ≡ key_of M (name_of c)
  own_key c n = elim (mem_split c kernel olds n) [
    | inl a ↦ (
        let f = map_mem (λ (f : ClassFace). class_in modules.Kernel (bare f)) c kernel_interface.classes a in
        let known : among (name_of c) kernel_names ≡ true = ap (λ (z : Class). among (name_of z) kernel_names) f.2 ∙ every_mem (λ (f : ClassFace). among f.name kernel_names) f.0 kernel_interface.classes kernel_named f.1 in
        let key : c.key ≡ keys.Named modules.Kernel (name_of c) = subst (λ (z : Class). z.key ≡ keys.Named modules.Kernel (name_of z)) (sym f.2) refl in
        key ∙ ap (λ (z : Module). keys.Named z (name_of c)) (sym (kernel_module c n a known)))
    | inr b ↦ library_key old c b ∙ ap (λ (z : Module). keys.Named z (name_of c)) (sym (library_module c n b))
  ]

  -- the name of a known class stands for it
  pub key_named : (k : ClassKey) (c : Class) → class_at O k ≡ Some c → key_of M (class_text k) ≡ k
  key_named k c e =
      let f = found_is olds so.load.ordered k c e in
      let own = own_key c f.0 in
      let text : class_text k ≡ name_of c = ap class_text (sym f.1 ∙ own) ∙ text_named (M (name_of c)) (name_of c) in
      ap (key_of M) text ∙ sym own ∙ f.1

  -- the text of a value's type stands for it
  pub type_named : (p : ℕ) (t : ValueType) → is_value_type O t ≡ true → type_of M (type_at p t) ≡ t
  type_named p types.Void e = absurd (true≢false (sym e))
  type_named p types.Long e = refl
  type_named p types.Boolean e = refl
  type_named p types.Str e = refl
  type_named p (types.Class k) e = let c = class_known O k e in ap (λ z. types.Class z) (key_named k c.0 c.1)

  -- and that of a result
  pub result_named : (p : ℕ) (t : ValueType) → is_known O t ≡ true → result_of M (result_at p t) ≡ t
  result_named p types.Void e = refl
  result_named p types.Long e = refl
  result_named p types.Boolean e = refl
  result_named p types.Str e = refl
  result_named p (types.Class k) e = let c = class_known O k e in ap (λ z. types.Class z) (key_named k c.0 c.1)
