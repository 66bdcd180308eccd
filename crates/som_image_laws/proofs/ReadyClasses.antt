-- Classes that keep the rules and are within the limits name nothing that isn't there: so they can be numbered.
use Rattle.std.proofs.Common.{◌≡◌, ℕ, zero, suc, ◌<◌, ◌≤◌, ◌^◌, ◌==◌, inl, inr, Bool, true, false, not, ◌&&◌, if◌then◌else◌, true≢false, List, [], ◌∷◌, ◌++◌, length, map, Option, Some, None, is_some, slice_get, Ok, Err, refl, sym, ap, subst, ◌∙◌, append_assoc, arith}
use Rattle.std.specs.Prelude.{flat_map, All, IfSome}
use Rattle.std.specs.List.{AllByRecursion}
use Rattle.std.specs.Str.{bytes_eq}
use Rattle.std.proofs.lemmas.Bool.{eqb-true}
use Rattle.std.proofs.lemmas.List.{length-map}
use Rattle.std.proofs.lemmas.List.Concat.{flat_map-cons}
use Rattle.std.proofs.lemmas.List.Elements.{All-from_recursion, recursion_from_All}
use Rattle.som_model.specs.declared.limits.TheConstants.{MAX_VARIABLES}
use Rattle.som_model.specs.declared.key.Module.{Module}
use Rattle.som_model.specs.declared.key.ClassKey.{ClassKey}
use Rattle.som_model.specs.declared.key.MethodRef.{MethodRef}
use Rattle.som_model.specs.declared.key.ValueType.{ValueType}
use Rattle.som_model.specs.declared.key.ValueType.TheVariants as values
use Rattle.som_model.specs.declared.syntax.Block.{Block}
use Rattle.som_model.specs.declared.class.Sig.{Sig}
use Rattle.som_model.specs.declared.class.Entry.{Entry}
use Rattle.som_model.specs.declared.class.Entry.TheVariants as entries
use Rattle.som_model.specs.declared.class.Body.{Body}
use Rattle.som_model.specs.declared.class.Body.TheVariants as bodies
use Rattle.som_model.specs.declared.class.Variable.{Variable}
use Rattle.som_model.specs.declared.class.Override.{Override}
use Rattle.som_model.specs.declared.class.Select.{Select}
use Rattle.som_model.specs.declared.class.ClassFace.{ClassFace}
use Rattle.som_model.specs.declared.class.ClassDecl.{ClassDecl}
use Rattle.som_model.specs.Lists.{Mem, among, doubles, every, option_list, some}
use Rattle.som_model.specs.Keys.{same_method}
use Rattle.som_model.specs.Class.{Class, class_in, introduced}
use Rattle.som_model.specs.Classes.{class_at}
use Rattle.som_model.specs.Owner.{entry_at, introduces, owner, sig_of}
use Rattle.som_model.specs.Rules.{RuleBreach, name_of, breach, demand, demand_of, is_known, is_value_type, is_proper, body_fits, s1, s2, s5, s9, s10, s10_from, s10_selects, is_replaced_once, is_parent_below, s14}
use Rattle.som_model.specs.Typing.{Ruled, CodePlace, class_facts, in_body}
use Rattle.som_model.specs.TypedBlocks.{Scope, block_scope}
use Rattle.som_model.specs.Conforming.{each_after, block_breach, bodies_typed, override_typed, class_typed}
use Rattle.som_model.proofs.KeyLaws.{both}
use Rattle.som_image_decode.specs.Naming.{Tells}
use Rattle.som_image_decode.specs.declared.directory.Directory.{Directory}
use Rattle.som_image_encode.specs.Numbering.{MethodKnown, IsKnown, IsValue}
use Rattle.som_image_decode.specs.BlockLimits.{BlockWithin}
use Rattle.som_image_encode.specs.ReadyBlocks.{BlockReady}
use Rattle.som_image_decode.proofs.Places.{all_map}
use Rattle.som_image_encode.proofs.KnownMethods.{keys_of, known_mem, some_known, has_entry, method_known, covers}
use Rattle.som_image_encode.proofs.TypedBlocks.{typed_is_ready}
use Rattle.som_image_classes.specs.ClassLimits.{BodyWithin, ClassWithin}
use Rattle.som_image_encode.specs.NumberedClasses.{EntryKnown, FaceKnown, BodyReady, OverrideReady}
use Rattle.som_image_classes.proofs.Conforming.{both_empty, not_broken, names_joined}
use Rattle.som_image_laws.proofs.NumberedParts.{ClassReady}

-- ---- demands that hold

abbrev nothing : List RuleBreach
nothing = []

demanded : (rule : ℕ) (c : Class) (b : Bool) → demand rule c b ≡ [] → b ≡ true
demanded rule c true h = refl
demanded rule c false h = absurd cc

demanded_of : (rule : ℕ) (c : Class) (member : List ℕ) (b : Bool) → demand_of rule c member b ≡ [] → b ≡ true
demanded_of rule c member true h = refl
demanded_of rule c member false h = absurd cc

flat_none : {A : Type 0} (rule : A → List RuleBreach) (xs : List A) → flat_map rule xs ≡ [] → AllByRecursion (λ x. rule x ≡ []) xs
flat_none rule [] h = tt
flat_none rule (x ∷ xs) h =
    let b = both_empty (rule x) (flat_map rule xs) (sym (flat_map-cons rule x xs) ∙ h) in
    (b.0, flat_none rule xs b.1)

every_all : {A : Type 0} (test : A → Bool) (xs : List A) → every test xs ≡ true → AllByRecursion (λ x. test x ≡ true) xs
every_all test [] h = tt
every_all test (x ∷ xs) h = by (test x) refl (every_all test xs) h
  where
    by : (b : Bool) → test x ≡ b → (every test xs ≡ true → AllByRecursion (λ y. test y ≡ true) xs) → (if b then every test xs else false) ≡ true → AllByRecursion (λ y. test y ≡ true) (x ∷ xs)
    by true e f k = (e, f k)
    by false e f k = absurd (true≢false (sym k))

-- what is found at a place is below the end
there_below : {A : Type 0} (xs : List A) (n : ℕ) (x : A) → slice_get xs n ≡ Some x → n < length xs
there_below [] n x e = absurd cc
there_below (y ∷ ys) zero x e = omega arith
there_below (y ∷ ys) (suc n) x e = let h = there_below ys n x e in omega (arith, h)

-- ---- classes that are known

mem_front : (k : ClassKey) (before cs : List Class) → Mem k (keys_of before) → Mem k (keys_of (before ++ cs))
mem_front k [] cs h = absurd h
mem_front k (c ∷ before) cs (inl e) = inl e
mem_front k (c ∷ before) cs (inr m) = inr (mem_front k before cs m)

-- parents and the metaclass stand before their class
abbrev pub NamesBefore : List ClassKey → ClassFace → Type 0
NamesBefore ks f = AllByRecursion (λ k. Mem k ks) (f.parents ++ option_list f.metaclass)

pub stand_before : (before cs : List Class) → each_after s2 before cs ≡ [] → AllByRecursion (λ (c : Class). NamesBefore (keys_of (before ++ cs)) c.decl.face) cs
stand_before before [] h = tt
stand_before before (c ∷ cs) h =
    let b = both_empty (s2 before c) (each_after s2 (before ++ c ∷ []) cs) h in
    let names = c.decl.face.parents ++ option_list c.decl.face.metaclass in
    let test = demanded 2 c (every (λ k. is_some (class_at before k)) names) b.0 in
    let here = every_all (λ k. is_some (class_at before k)) names test in
    let later = stand_before (before ++ c ∷ []) cs b.1 in (
      all_map (λ k. is_some (class_at before k) ≡ true) (λ k. Mem k (keys_of (before ++ c ∷ cs))) (λ k e. mem_front k before (c ∷ cs) (known_mem before k e)) names here,
      subst (λ (l : List Class). AllByRecursion (λ (x : Class). NamesBefore (keys_of l) x.decl.face) cs) (append_assoc before (c ∷ []) cs) later,
    )

pub all_front : (P : ClassKey → Type 0) (xs ys : List ClassKey) → AllByRecursion P (xs ++ ys) → AllByRecursion P xs
all_front P [] ys h = tt
all_front P (x ∷ xs) ys h = (h.0, all_front P xs ys h.1)

all_back : (P : ClassKey → Type 0) (xs ys : List ClassKey) → AllByRecursion P (xs ++ ys) → AllByRecursion P ys
all_back P [] ys h = h
all_back P (x ∷ xs) ys h = all_back P xs ys h.1

of_option : (P : ClassKey → Type 0) (o : Option ClassKey) → AllByRecursion P (option_list o) → IfSome o P
of_option P None h = tt
of_option P (Some k) h = h.0

-- ---- types and moved entries

module _ (cs : List Class) where
  abbrev ks : List ClassKey
  ks = keys_of cs

  kind_known : (t : ValueType) → is_known cs t ≡ true → IsKnown ks t
  kind_known values.Void h = tt
  kind_known values.Long h = tt
  kind_known values.Boolean h = tt
  kind_known values.Str h = tt
  kind_known (values.Class k) h = known_mem cs k h

  value_known : (t : ValueType) → is_value_type cs t ≡ true → IsValue ks t
  value_known values.Void h = absurd (true≢false (sym h))
  value_known values.Long h = tt
  value_known values.Boolean h = tt
  value_known values.Str h = tt
  value_known (values.Class k) h = known_mem cs k h

  -- what the rule on types tells of an entry
  abbrev pub types_told : Class → Entry → List RuleBreach
  types_told c (entries.Introduced name sig way) = demand_of 5 c name (is_known cs sig.result && every (is_value_type cs) sig.params)
  types_told c (entries.Moved name to) = []

  -- among these classes and maybe more, where an ancestor that introduces the name of a moved entry is one of these
  module _ (all : List Class) (c : Class) (ancestor : (to : ClassKey) (name : List ℕ) → is_proper all c to ≡ true → introduces all name to ≡ true → Mem to ks) where
    abbrev moves_told : Entry → List RuleBreach
    moves_told (entries.Introduced name sig way) = []
    moves_told (entries.Moved name to) = demand_of 9 c name (is_proper all c to && introduces all name to)

    entry_known : (e : Entry) → types_told c e ≡ [] → moves_told e ≡ [] → EntryKnown ks e
    entry_known (entries.Introduced name sig way) t m =
        let b = both (is_known cs sig.result) (every (is_value_type cs) sig.params) (demanded_of 5 c name (is_known cs sig.result && every (is_value_type cs) sig.params) t) in
        record {
          result = kind_known sig.result b.0;
          params = All-from_recursion (IsValue ks) sig.params (all_map (λ p. is_value_type cs p ≡ true) (IsValue ks) value_known sig.params (every_all (is_value_type cs) sig.params b.1));
        }
    entry_known (entries.Moved name to) t m =
        let b = both (is_proper all c to) (introduces all name to) (demanded_of 9 c name (is_proper all c to && introduces all name to) m) in
        ancestor to name b.0 b.1

    entries_known : (es : List Entry) → flat_map (types_told c) es ≡ [] → flat_map moves_told es ≡ [] → AllByRecursion (EntryKnown ks) es
    entries_known [] t m = tt
    entries_known (e ∷ es) t m =
        let a = both_empty (types_told c e) (flat_map (types_told c) es) (sym (flat_map-cons (types_told c) e es) ∙ t) in
        let b = both_empty (moves_told e) (flat_map moves_told es) (sym (flat_map-cons moves_told e es) ∙ m) in
        (entry_known e a.0 b.0, entries_known es a.1 b.1)

    -- a face that breaks no rule on types and moved entries, with parents and a metaclass that are there
    pub face_known : NamesBefore ks c.decl.face → flat_map (types_told c) c.decl.face.entries ≡ [] → s9 all c ≡ [] → FaceKnown ks c.decl.face
    face_known before types moves =
        let f : ClassFace = c.decl.face in
        record {
          parents = All-from_recursion (λ k. Mem k ks) f.parents (all_front (λ k. Mem k ks) f.parents (option_list f.metaclass) before);
          metaclass = of_option (λ k. Mem k ks) f.metaclass (all_back (λ k. Mem k ks) f.parents (option_list f.metaclass) before);
          entries = All-from_recursion (EntryKnown ks) f.entries (entries_known f.entries types moves);
        }

  -- a class that isn't known introduces nothing
  introducer : (k : ClassKey) (name : List ℕ) (o : Option Class) → class_at cs k ≡ o → introduces cs name k ≡ true → is_some (class_at cs k) ≡ true
  introducer k name (Some c) e h = some_known cs k c e
  introducer k name None e h =
      let none : introduces cs name k ≡ false = rw e refl in
      absurd (true≢false (sym h ∙ none))

  introducer_known : (c : Class) (to : ClassKey) (name : List ℕ) → is_proper cs c to ≡ true → introduces cs name to ≡ true → Mem to ks
  introducer_known c to name proper h = known_mem cs to (introducer to name (class_at cs to) refl h)

  -- ---- overrides

  module _ (d : Directory) (tells : Tells d cs) where
    -- ---- blocks

    abbrev typed_told : Class → List ℕ → Ruled Scope → List RuleBreach
    typed_told c name (Ok scope) = []
    typed_told c name (Err rule) = breach rule c name ∷ []

    typed : (c : Class) (name : List ℕ) (r : Ruled Scope) → typed_told c name r ≡ [] → (scope : Scope) × (r ≡ Ok scope)
    typed c name (Ok scope) h = (scope, refl)
    typed c name (Err rule) h = absurd cc

    block_ready : (at : CodePlace) (scope : Scope) (c : Class) (name : List ℕ) (b : Block) → BlockWithin b → typed_told c name (block_scope (class_facts cs) at b scope) ≡ [] → BlockReady d b
    block_ready at scope c name b within h =
        let t = typed c name (block_scope (class_facts cs) at b scope) h in
        typed_is_ready (class_facts cs) d (covers cs d tells) at scope t.0 b within t.1

    abbrev override_told : Class → Override → Option Sig → List RuleBreach
    override_told c o None = []
    override_told c o (Some sig) = block_breach cs c o.method.name sig o.block

    override_block : (c : Class) (o : Override) (s : Option Sig) → is_some s ≡ true → override_told c o s ≡ [] → BlockWithin o.block → BlockReady d o.block
    override_block c o (Some sig) h t within = block_ready (in_body c sig.result) sig.params c o.method.name o.block within t
    override_block c o None h t within = absurd (true≢false (sym h))

    overrides_ready : (c : Class) (before : List MethodRef) (os : List Override) → s10_from cs c before os ≡ [] → flat_map (override_typed cs c) os ≡ [] → AllByRecursion (λ (o : Override). BlockWithin o.block) os → AllByRecursion (OverrideReady d) os
    overrides_ready c before [] h t within = tt
    overrides_ready c before (o ∷ os) h t within =
        let r : MethodRef = owner cs o.method in
        let test : Bool = is_replaced_once cs c before r in
        let b = both_empty (demand_of 10 c o.method.name test) (s10_from cs c (before ++ r ∷ []) os) h in
        let u = both_empty (override_typed cs c o) (flat_map (override_typed cs c) os) (sym (flat_map-cons (override_typed cs c) o os) ∙ t) in
        let p = both (is_proper cs c r.class && introduces cs r.name r.class) (not (some (same_method r) before)) (demanded_of 10 c o.method.name test b.0) in
        let i = both (is_proper cs c r.class) (introduces cs r.name r.class) p.0 in (
          record {
            method = method_known cs d tells o.method (has_entry cs o.method (entry_at cs o.method.class o.method.name) refl i.1);
            block = override_block c o (sig_of cs (owner cs o.method)) i.1 u.0 within.0;
          },
          overrides_ready c (before ++ r ∷ []) os b.1 u.1 within.1,
        )

    -- ---- selects

    -- a select of a method that there is, and of a parent
    abbrev pub SelectReady : Class → Select → Type 0
    SelectReady c s = MethodKnown d s.method × (s.parent < length c.decl.face.parents)

    parent_there : (c : Class) (a : ClassKey) (n : ℕ) (o : Option ClassKey) → slice_get c.decl.face.parents n ≡ o → is_parent_below cs a o ≡ true → n < length c.decl.face.parents
    parent_there c a n (Some k) e h = there_below c.decl.face.parents n k e
    parent_there c a n None e h = absurd (true≢false (sym h))

    selects_ready : (c : Class) (before : List MethodRef) (ss : List Select) → s10_selects cs c before ss ≡ [] → AllByRecursion (SelectReady c) ss
    selects_ready c before [] h = tt
    selects_ready c before (s ∷ ss) h =
        let r : MethodRef = owner cs s.method in
        let once : Bool = is_replaced_once cs c before r in
        let below : Bool = is_parent_below cs r.class (slice_get c.decl.face.parents s.parent) in
        let b = both_empty (demand_of 10 c s.method.name (once && below)) (s10_selects cs c (before ++ r ∷ []) ss) h in
        let p = both once below (demanded_of 10 c s.method.name (once && below) b.0) in
        let q = both (is_proper cs c r.class && introduces cs r.name r.class) (not (some (same_method r) before)) p.0 in
        let i = both (is_proper cs c r.class) (introduces cs r.name r.class) q.0 in
        ((method_known cs d tells s.method (has_entry cs s.method (entry_at cs s.method.class s.method.name) refl i.1), parent_there c r.class s.parent (slice_get c.decl.face.parents s.parent) refl p.1), selects_ready c (before ++ r ∷ []) ss b.1)

-- ---- bodies

abbrev kinds : List Variable → List ValueType
kinds vs = map (λ (v : Variable). v.kind) vs

get_below : (vs : List Variable) (sig : Sig) (n : ℕ) (o : Option ValueType) → slice_get (kinds vs) n ≡ o → body_fits vs sig (bodies.Get n) ≡ true → n < length vs
get_below vs sig n (Some t) e h = let k = there_below (kinds vs) n t e in omega (arith, k, length-map vs (λ (v : Variable). v.kind))
get_below vs sig n None e h = let none : body_fits vs sig (bodies.Get n) ≡ false = rw e refl in absurd (true≢false (sym h ∙ none))

and_false : (b : Bool) → (b && false) ≡ false
and_false true = refl
and_false false = refl

set_below : (vs : List Variable) (sig : Sig) (n : ℕ) (o : Option ValueType) → slice_get (kinds vs) n ≡ o → body_fits vs sig (bodies.Set n) ≡ true → n < length vs
set_below vs sig n (Some t) e h = let k = there_below (kinds vs) n t e in omega (arith, k, length-map vs (λ (v : Variable). v.kind))
set_below vs sig n None e h = let none : body_fits vs sig (bodies.Set n) ≡ false = rw e (and_false _) in absurd (true≢false (sym h ∙ none))

-- the number of a variable is a byte
abbrev IsByte : Body → Type 0
IsByte (bodies.User b) = Unit {0}
IsByte (bodies.Get n) = n < 2 ^ 8
IsByte (bodies.Set n) = n < 2 ^ 8

body_byte : (vs : List Variable) (sig : Sig) (b : Body) → length vs ≤ MAX_VARIABLES → body_fits vs sig b ≡ true → IsByte b
body_byte vs sig (bodies.User b) few h = tt
body_byte vs sig (bodies.Get n) few h = let k = get_below vs sig n (slice_get (kinds vs) n) refl h in omega (arith, k, few)
body_byte vs sig (bodies.Set n) few h = let k = set_below vs sig n (slice_get (kinds vs) n) refl h in omega (arith, k, few)

abbrev bodies_told : Class → List Entry → List Body → List RuleBreach
bodies_told c [] bs = []
bodies_told c (entries.Moved name to ∷ es) bs = bodies_told c es bs
bodies_told c (entries.Introduced name sig way ∷ es) [] = []
bodies_told c (entries.Introduced name sig way ∷ es) (b ∷ bs) = demand_of 14 c name (body_fits c.decl.variables sig b) ++ bodies_told c es bs

module _ (cs : List Class) (d : Directory) (tells : Tells d cs) where
  bodies_ready : (c : Class) (es : List Entry) (bs : List Body) → length c.decl.variables ≤ MAX_VARIABLES → length bs ≡ length (introduced es) → bodies_told c es bs ≡ [] → bodies_typed cs c es bs ≡ [] → AllByRecursion BodyWithin bs → AllByRecursion (BodyReady d) bs
  bodies_ready c es [] few many h t within = tt
  bodies_ready c [] (b ∷ bs) few many h t within = absurd (omega (arith, many))
  bodies_ready c (entries.Moved name to ∷ es) (b ∷ bs) few many h t within = bodies_ready c es (b ∷ bs) few many h t within
  bodies_ready c (entries.Introduced name sig way ∷ es) (bodies.User b ∷ bs) few many h t within =
      let s = both_empty (demand_of 14 c name (body_fits c.decl.variables sig (bodies.User b))) (bodies_told c es bs) h in
      let u = both_empty (block_breach cs c name sig b) (bodies_typed cs c es bs) t in
      (block_ready cs d tells (in_body c sig.result) sig.params c name b within.0 u.0, bodies_ready c es bs few (omega (arith, many)) s.1 u.1 within.1)
  bodies_ready c (entries.Introduced name sig way ∷ es) (bodies.Get n ∷ bs) few many h t within =
      let s = both_empty (demand_of 14 c name (body_fits c.decl.variables sig (bodies.Get n))) (bodies_told c es bs) h in
      (body_byte c.decl.variables sig (bodies.Get n) few (demanded_of 14 c name (body_fits c.decl.variables sig (bodies.Get n)) s.0), bodies_ready c es bs few (omega (arith, many)) s.1 t within.1)
  bodies_ready c (entries.Introduced name sig way ∷ es) (bodies.Set n ∷ bs) few many h t within =
      let s = both_empty (demand_of 14 c name (body_fits c.decl.variables sig (bodies.Set n))) (bodies_told c es bs) h in
      (body_byte c.decl.variables sig (bodies.Set n) few (demanded_of 14 c name (body_fits c.decl.variables sig (bodies.Set n)) s.0), bodies_ready c es bs few (omega (arith, many)) s.1 t within.1)

-- ---- names of classes

-- the names of these classes differ, and from those that were seen
pub names_new : (seen cs : List Class) → each_after s1 seen cs ≡ [] → doubles bytes_eq (map name_of seen) (map name_of cs) ≡ []
names_new seen [] h = refl
names_new seen (c ∷ cs) h =
    let name : List ℕ = name_of c in
    let b = both_empty (s1 seen c) (each_after s1 (seen ++ c ∷ []) cs) h in
    let new : among name (map name_of seen) ≡ false = not_broken (among name (map name_of seen)) _ b.0 in
    let later = subst (λ (ns : List (List ℕ)). doubles bytes_eq ns (map name_of cs) ≡ []) (names_joined seen c) (names_new (seen ++ c ∷ []) cs b.1) in
    ap (λ (x : Bool). if x then name ∷ doubles bytes_eq (map name_of seen) (map name_of cs) else doubles bytes_eq (map name_of seen ++ name ∷ []) (map name_of cs)) new ∙ later

-- ---- classes

-- what is asked of a class by the rules
pub record KeepsRules (cs : List Class) (c : Class) : Type 0 where
  pub before : NamesBefore (keys_of cs) c.decl.face
  pub types : s5 cs c ≡ []
  pub moves : s9 cs c ≡ []
  pub overrides : s10 cs c ≡ []
  pub bodies : s14 c ≡ []
  pub blocks : class_typed cs c ≡ []

module _ (d : Directory) (cs : List Class) (tells : Tells d cs) where
  abbrev known_by : ClassDecl → List ClassKey → Type 0
  known_by c l = FaceKnown l c.face

  abbrev variables_known : ClassDecl → List ClassKey → Type 0
  variables_known c l = All (λ (v : Variable). IsValue l v.kind) c.variables

  pub class_ready : (home : Module) (c : ClassDecl) → KeepsRules cs (class_in home c) → ClassWithin c → ClassReady d c
  class_ready home c keeps within =
      let own : Class = class_in home c in
      let es = c.face.entries in
      let t = both_empty (flat_map (types_told cs own) es) (flat_map (λ (v : Variable). demand_of 5 own v.name (is_value_type cs v.kind)) c.variables) keeps.types in
      let face = face_known cs cs own (introducer_known cs own) keeps.before t.0 keeps.moves in
      let kinds = all_map (λ (v : Variable). demand_of 5 own v.name (is_value_type cs v.kind) ≡ []) (λ (v : Variable). IsValue (keys_of cs) v.kind) (λ v e. value_known cs v.kind (demanded_of 5 own v.name (is_value_type cs v.kind) e)) c.variables (flat_none (λ (v : Variable). demand_of 5 own v.name (is_value_type cs v.kind)) c.variables t.1) in
      let b = both_empty (demand 14 own (length c.bodies == length (introduced es))) (bodies_told own es c.bodies) keeps.bodies in
      let many : length c.bodies ≡ length (introduced es) = eqb-true _ _ (demanded 14 own (length c.bodies == length (introduced es)) b.0) in
      let k = both_empty (bodies_typed cs own es c.bodies) (flat_map (override_typed cs own) c.overrides) keeps.blocks in
      let replaced = both_empty (s10_from cs own [] c.overrides) (s10_selects cs own (map (λ (o : Override). owner cs o.method) c.overrides) c.selects) keeps.overrides in
      let selected = selects_ready cs d tells own (map (λ (o : Override). owner cs o.method) c.overrides) c.selects replaced.1 in
      let few_parents : length c.face.parents < 2 ^ 8 = omega (arith, within.face.parents) in
      record {
        known = record {
          face = subst (known_by c) tells.keys face;
          variables = subst (variables_known c) tells.keys (All-from_recursion (λ (v : Variable). IsValue (keys_of cs) v.kind) c.variables kinds);
          bodies = All-from_recursion (BodyReady d) c.bodies (bodies_ready cs d tells own es c.bodies within.variables many b.1 k.0 (recursion_from_All BodyWithin c.bodies within.each_body));
          overrides = All-from_recursion (OverrideReady d) c.overrides (overrides_ready cs d tells own [] c.overrides replaced.0 k.1 (recursion_from_All (λ (o : Override). BlockWithin o.block) c.overrides within.each_override));
          selects = All-from_recursion (λ (s : Select). MethodKnown d s.method) c.selects (all_map (SelectReady cs d tells own) (λ (s : Select). MethodKnown d s.method) (λ s h. h.0) c.selects selected);
        };
        within = within;
        as_many = many;
        selects = all_map (SelectReady cs d tells own) (λ (s : Select). s.parent < 2 ^ 8) (λ s h. omega (arith, h.1, few_parents)) c.selects selected;
      }

  pub classes_ready : (home : Module) (ds : List ClassDecl) → AllByRecursion (λ (c : Class). NamesBefore (keys_of cs) c.decl.face) (map (class_in home) ds) → flat_map (s5 cs) (map (class_in home) ds) ≡ [] → flat_map (s9 cs) (map (class_in home) ds) ≡ [] → flat_map (s10 cs) (map (class_in home) ds) ≡ []
      → flat_map s14 (map (class_in home) ds) ≡ [] → flat_map (class_typed cs) (map (class_in home) ds) ≡ [] → AllByRecursion ClassWithin ds → AllByRecursion (ClassReady d) ds
  classes_ready home [] before types moves overrides bodies blocks within = tt
  classes_ready home (c ∷ ds) before types moves overrides bodies blocks within =
      let own : List Class = map (class_in home) ds in
      let h : Class = class_in home c in
      let t = both_empty (s5 cs h) (flat_map (s5 cs) own) (sym (flat_map-cons (s5 cs) h own) ∙ types) in
      let m = both_empty (s9 cs h) (flat_map (s9 cs) own) (sym (flat_map-cons (s9 cs) h own) ∙ moves) in
      let o = both_empty (s10 cs h) (flat_map (s10 cs) own) (sym (flat_map-cons (s10 cs) h own) ∙ overrides) in
      let b = both_empty (s14 h) (flat_map s14 own) (sym (flat_map-cons s14 h own) ∙ bodies) in
      let k = both_empty (class_typed cs h) (flat_map (class_typed cs) own) (sym (flat_map-cons (class_typed cs) h own) ∙ blocks) in
      (class_ready home c (record { before = before.0; types = t.0; moves = m.0; overrides = o.0; bodies = b.0; blocks = k.0 }) within.0, classes_ready home ds before.1 t.1 m.1 o.1 b.1 k.1 within.1)
