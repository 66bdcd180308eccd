-- A client program that was compiled against an older release binds to a newer one that keeps what it promised.
use Rattle.std.proofs.Common.{◌≡◌, ℕ, inl, inr, true, List, [], ◌∷◌, ◌++◌, flat_map, Option, Some, None, IsSome, refl, sym, ap, ◌∙◌, true≢false}
use Rattle.std.specs.Prelude.{is_some}
use Rattle.som_model.specs.declared.key.Module.TheVariants as modules
use Rattle.som_model.specs.declared.key.ClassKey.{ClassKey}
use Rattle.som_model.specs.declared.key.ClassKey.TheVariants as keys
use Rattle.som_model.specs.declared.key.MethodRef.{MethodRef}
use Rattle.som_model.specs.declared.class.Sig.{Sig}
use Rattle.som_model.specs.declared.class.ClassFace.{ClassFace}
use Rattle.som_model.specs.declared.program.Release.{Release}
use Rattle.som_model.specs.declared.program.ClientProgram.{ClientProgram}
use Rattle.som_model.specs.Lists.{Mem}
use Rattle.som_model.specs.Keys.{same_key}
use Rattle.som_model.specs.Class.{Class, bare, class_in}
use Rattle.som_model.specs.Classes.{class_at, client_classes, interface_classes, library_classes}
use Rattle.som_model.specs.Kernel.{kernel}
use Rattle.som_model.specs.Owner.{owner, sig_of}
use Rattle.som_model.specs.Typing.{ClassFacts, class_facts}
use Rattle.som_model.specs.Images.{slot_in}
use Rattle.som_model.specs.Named.{Named, AClass, AMethod, block_names, decl_names, face_names, program_names}
use Rattle.som_model.specs.Binds.{Binds}
use Rattle.som_model.specs.Loads.{IsOrdered, keys_of}
use Rattle.som_model.proofs.KeyLaws.{exact_keys}
use Rattle.som_model_laws.proofs.Members.{mem_left, mem_right, mem_split}
use Rattle.som_model_laws.specs.Keeping.{ClassesKeep}
use Rattle.som_model_laws.proofs.Lists.{doubles_apart, find_at, map_mem, mem_map}
use Rattle.som_model_laws.proofs.Owners.{entry_class}
use Rattle.som_model_laws.proofs.Standing.{found, found_is, kernel_key, named_one}
use Rattle.som_release_laws.specs.Refining.{AreKnown}
use Rattle.som_release_laws.specs.Releasing.{AreLoadable, IsCompiled, OwnersAreKept}
use Rattle.som_release_laws.proofs.Exchange.{kinds, new_ordered, pair}
use Rattle.som_release_laws.proofs.FaceNames.{known_facts}
use Rattle.som_release_laws.proofs.Loading.{decl_known, face_known, main_known, main_typed, typed}
use Rattle.som_release_laws.proofs.Prefix.{signature_entry}
use Rattle.som_release_laws.proofs.Slots.{same_slot, slot_there}
use Rattle.som_release_laws.proofs.TypesBelow.{both_named, none_named}

facts_said : (cs : List Class) (m : MethodRef) (s : Sig) → (class_facts cs).signature m ≡ Some s → sig_of cs (owner cs m) ≡ Some s
unfolding class_facts
facts_said cs m s e = e

flat_named : {X : Type 0} (w : ClassFacts) (f : X → List Named) (xs : List X) → ((x : X) → Mem x xs → AreKnown w (f x)) → AreKnown w (flat_map f xs)
flat_named w f [] g = none_named w
flat_named w f (x ∷ xs) g = both_named w (f x) (flat_map f xs) (g x (inl refl)) (flat_named w f xs (λ y m. g y (inr m)))

pub library_key : (r : Release) (c : Class) → Mem c (library_classes r) → (n : List ℕ) × (c.key ≡ keys.Named modules.Library n)
library_key r c m = let d = map_mem (class_in modules.Library) c r.classes m in (d.0.face.name, ap (λ (z : Class). z.key) d.2)

pub client_key : (p : ClientProgram) (c : Class) → Mem c (client_classes p) → (n : List ℕ) × (c.key ≡ keys.Named modules.Client n)
client_key p c m = let d = map_mem (class_in modules.Client) c p.classes m in (d.0.face.name, ap (λ (z : Class). z.key) d.2)

pub modules_apart : (r : Release) (p : ClientProgram) (c d : Class) → Mem c (library_classes r) → Mem d (client_classes p) → c.key ≡ d.key → ⊥
modules_apart r p c d m n e =
    let a = library_key r c m in
    let b = client_key p d n in
    let same = (named_one modules.Library modules.Client a.0 b.0 (sym a.1 ∙ e ∙ b.1)).0 in
    cc

is_there : (o : Option Class) → is_some o ≡ true → (c : Class) × (o ≡ Some c)
is_there None e = absurd (true≢false (sym e))
is_there (Some c) e = (c, refl)

module _ (p : ClientProgram) (r : Release) (compiled : IsCompiled (interface_classes p.base) (client_classes p) p.main) (loadable : AreLoadable (library_classes r)) (keep : ClassesKeep (interface_classes p.base) (library_classes r)) (kept : OwnersAreKept (interface_classes p.base) (library_classes r)) where
  abbrev olds : List Class
  olds = interface_classes p.base

  abbrev news : List Class
  news = library_classes r

  abbrev own : List Class
  own = client_classes p

  abbrev A : List Class
  A = kernel ++ (olds ++ own)

  abbrev B : List Class
  B = kernel ++ (news ++ own)

  abbrev oa : IsOrdered (olds ++ own)
  oa = compiled.faces.ordered

  abbrev on : IsOrdered news
  on = loadable.faces.ordered

  all_known : AreKnown (class_facts A) (program_names p)
  all_known =
      let w = class_facts A in
      both_named w (flat_map face_names p.base.classes) (flat_map decl_names p.classes ++ block_names p.main)
      (flat_named w face_names p.base.classes (λ f m.
      face_known olds news own p.main compiled loadable keep kept (modules_apart r p) (class_in modules.Library (bare f)) (mem_left (class_in modules.Library (bare f)) olds own (mem_map (λ (f : ClassFace). class_in modules.Library (bare f)) f p.base.classes m))))
      (both_named w (flat_map decl_names p.classes) (block_names p.main)
      (flat_named w decl_names p.classes (λ d m. decl_known olds news own p.main compiled loadable keep kept (modules_apart r p) (class_in modules.Client d) (mem_map (class_in modules.Client) d p.classes m)))
      (main_known olds news own p.main compiled loadable keep kept (modules_apart r p)))

  -- a library class that is named is in the release
  bound : (name : List ℕ) → Mem (AClass (keys.Named modules.Library name)) (program_names p) → IsSome (class_at news (keys.Named modules.Library name))
  bound name m =
      let k = keys.Named modules.Library name in
      let c = is_there (class_at A k) (known_facts A k (all_known.classes k m)) in
      let f = found_is (olds ++ own) oa k c.0 c.1 in
      elim (mem_split c.0 kernel (olds ++ own) f.0) [
        | inl a ↦ absurd (let q = kernel_key c.0 a in let same = (named_one modules.Kernel modules.Library q.0 name (sym q.1 ∙ f.1)).0 in cc)
        | inr b ↦ elim (mem_split c.0 olds own b) [
          | inl a ↦ (let n = pair olds news own oa on keep (modules_apart r p) c.0 a in
              ap is_some (find_at k news n.0 (doubles_apart same_key exact_keys (keys_of news) on.differ) n.1 (n.2 ∙ f.1)))
          | inr a ↦ absurd (let q = client_key p c.0 a in let same = (named_one modules.Client modules.Library q.0 name (sym q.1 ∙ f.1)).0 in cc)
        ]
      ]

  slot_at : (cs : List Class) (k : ClassKey) (name : List ℕ) (c : Class) → class_at cs k ≡ Some c → slot_in (class_at cs k) name ≡ slot_in (Some c) name
  slot_at cs k name c e = ap (λ (o : Option Class). slot_in o name) e

  -- a method that is named stands at the same slot
  slotted : (m : MethodRef) → Mem (AMethod m) (program_names p) → (n : ℕ) × (slot_in (class_at A m.class) m.name ≡ Some n) × (slot_in (class_at B m.class) m.name ≡ Some n)
  slotted m at =
      let s = all_known.methods m at in
      let e = signature_entry A m.class m.name s.0 (facts_said A m s.0 s.1) in
      let c = entry_class A m.class m.name e.0 e.1 in
      let i = slot_there m.name 0 c.0.decl.face.entries e.0 c.2 in (
        i.0,
        slot_at A m.class m.name c.0 c.1 ∙ i.1,
        elim (kinds olds news own oa on keep (modules_apart r p) m.class c.0 c.1) [
          | inl g ↦ slot_at B m.class m.name c.0 g ∙ i.1
          | inr o ↦ (
              let n = pair olds news own oa on keep (modules_apart r p) c.0 o in
              let key = (found_is (olds ++ own) oa m.class c.0 c.1).1 in
              let here = found (news ++ own) (new_ordered olds news own oa on keep (modules_apart r p)) n.0 m.class (mem_right n.0 kernel (news ++ own) (mem_left n.0 news own n.1)) (n.2 ∙ key) in
              slot_at B m.class m.name n.0 here ∙ same_slot m.name 0 i.0 c.0.decl.face.entries n.0.decl.face.entries (λ j x f. keep.places c.0 n.0 j x (record { old_one = o; new_one = n.1; same = n.2 }) f) i.1)
        ],
      )

  pub binds : Binds p r
  binds = record {
    known = bound;
    slots = slotted;
    typed = λ c m. typed olds news own p.main compiled loadable keep kept (modules_apart r p) c (mem_right c news own m);
    main_typed = main_typed olds news own p.main compiled loadable keep kept (modules_apart r p);
  }
