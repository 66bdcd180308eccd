-- The methods that an interface declares, and the ways of calling them.
use Rattle.std.proofs.Common.{◌≡◌, ℕ, inl, inr, Bool, true, false, if◌then◌else◌, List, [], ◌∷◌, ◌++◌, map, flat_map, refl, sym, ap, ◌∙◌, subst, true≢false}
use Rattle.std.proofs.lemmas.Grind.{flat_map-append}
use Rattle.som_model.specs.declared.key.Module.{Module}
use Rattle.som_model.specs.declared.key.ValueType.{ValueType}
use Rattle.som_model.specs.declared.key.ValueType.TheVariants as types
use Rattle.som_model.specs.declared.class.Sig.{Sig}
use Rattle.som_model.specs.declared.class.Way.{Way}
use Rattle.som_model.specs.declared.class.Way.TheVariants as ways
use Rattle.som_model.specs.declared.class.Entry.{Entry}
use Rattle.som_model.specs.declared.class.Entry.TheVariants as entries
use Rattle.som_model.specs.Class.{introduced}
use Rattle.som_model.specs.Lists.{Mem, among, without}
use Rattle.som_model_laws.proofs.Laws.{among_mem}
use Rattle.som_model_laws.proofs.Members.{mem_left, mem_right, mem_split}
use Rattle.som_model_laws.proofs.Lists.{flat_mem, mem_flat}
use Rattle.som_ast.specs.declared.words.TypeName.{TypeName}
use Rattle.som_ast.specs.declared.words.Word.{Word}
use Rattle.som_ast.specs.declared.interface.IdlInterface.{IdlInterface}
use Rattle.som_ast.specs.declared.interface.Export.{Export}
use Rattle.som_ast.specs.declared.interface.Export.TheVariants as exports
use Rattle.som_ast.specs.declared.interface.Item.{Item}
use Rattle.som_ast.specs.declared.interface.Item.TheVariants as items
use Rattle.som_ast.specs.declared.interface.Modifier.{Modifier}
use Rattle.som_ast.specs.declared.interface.Modifier.TheVariants as modifiers
use Rattle.som_verify_classes.proofs.PlainLists.{map_mem, mem_map}
use Rattle.som_sema_scope.specs.ClassNames.{result_of, type_of}
use Rattle.som_sema_drafts.specs.Items.{Given, by_name, given, given_in, if_given, is_by_name, with_modifier}
use Rattle.som_sema_drafts.specs.Drafts.{accessors, export_entries, introduces, method, way_of}
use Rattle.som_sema.proofs.TextLaws.{mem_of_once, says_once}
use Rattle.som_sema_laws.specs.Faces.{AccessorNames, DeclaredNames, Declares, Gives, Misses, WaySays, a_listed_name, a_missed_name, a_reader, a_writer, an_operation, by_place, kind_of, no_export, no_name, no_word, one_attribute, one_operation, one_reader, reader, reader_and_writer, writer}
use Rattle.som_sema_laws.specs.Faces.{by_name as by_its_name}
use Rattle.som_sema_laws.proofs.Placed.{only_placed, placed}

-- ---- modifiers

-- a modifier that passes a test, and that an item gives to a method
pub record GivesOne (test : Modifier → Bool) (is : List Item) (name : List ℕ) : Type 0 where
  pub modifier : Modifier
  pub gives : Gives is name modifier
  pub passes : test modifier ≡ true

passing : (b : Bool) (x name : List ℕ) → Mem name (if b then x ∷ [] else []) → (b ≡ true) × (name ≡ x)
passing true x name (inl e) = (refl, e)
passing true x name (inr m) = absurd m
passing false x name m = absurd m

one_of : (test : Modifier → Bool) (is : List Item) (name : List ℕ) (x : Item) (g : Given) → Mem x is → Mem g (given_in x) → Mem name (if_given test g) → GivesOne test is name
one_of test is name (items.Method w ms) g m n k =
    let r = map_mem (λ (q : Modifier). record { method = w.text; modifier = q }) g ms n in
    let p = passing (test g.modifier) g.method name k in
    let same : g.modifier ≡ r.0 = ap (λ (z : Given). z.modifier) r.2 in
    let named : g.method ≡ w.text = ap (λ (z : Given). z.method) r.2 in
    record {
      modifier = r.0;
      gives = record { method = w; modifiers = ms; there = m; named = sym named ∙ sym p.1; given = r.1 };
      passes = ap test (sym same) ∙ p.0;
    }
one_of test is name (items.ReleaseOrder ws) g m n k = absurd n
one_of test is name (items.Metaclass w) g m n k = absurd n
one_of test is name (items.Major j) g m n k = absurd n
one_of test is name (items.Minor j) g m n k = absurd n
one_of test is name (items.Variables kind ws) g m n k = absurd n

pub given_says : (test : Modifier → Bool) (is : List Item) (name : List ℕ) → Mem name (with_modifier test (given is)) → GivesOne test is name
given_says test is name m =
    let r = flat_mem (if_given test) name (given is) m in
    let s = flat_mem given_in r.0 is r.1 in
    one_of test is name s.0 r.0 s.1 s.2 r.2

pub says_given : (test : Modifier → Bool) (is : List Item) (name : List ℕ) (q : Modifier) → Gives is name q → test q ≡ true → Mem name (with_modifier test (given is))
says_given test is name q g e =
    let made : Given = record { method = g.method.text; modifier = q } in
    let inside : Mem made (given_in (items.Method g.method g.modifiers)) = mem_map (λ (z : Modifier). record { method = g.method.text; modifier = z }) q g.modifiers g.given in
    let there : Mem made (given is) = mem_flat given_in made (items.Method g.method g.modifiers) is g.there inside in
    subst (λ z. Mem z (with_modifier test (given is))) g.named
    (mem_flat (if_given test) g.method.text made (given is) there (subst (λ (b : Bool). Mem g.method.text (if b then g.method.text ∷ [] else [])) (sym e) (inl refl)))

by_name_is : (q : Modifier) → is_by_name q ≡ true → q ≡ modifiers.NameLookup
by_name_is modifiers.NameLookup e = refl
by_name_is modifiers.Override e = absurd (true≢false (sym e))
by_name_is modifiers.Offset e = absurd (true≢false (sym e))
by_name_is (modifiers.Select p) e = absurd (true≢false (sym e))

pub way_says : (module_of : List ℕ → Module) (i : IdlInterface) (name : List ℕ) → WaySays module_of i name (way_of (by_name i.items) name)
way_says module_of i name = by (among name (by_name i.items)) refl
  where
    by : (b : Bool) → among name (by_name i.items) ≡ b → WaySays module_of i name (if b then ways.Lookup else ways.Offset)
    by true e =
        let g = given_says is_by_name i.items name (mem_of_once name (with_modifier is_by_name (given i.items)) e) in
        by_its_name (subst (Gives i.items name) (by_name_is g.modifier g.passes) g.gives)
    by false e =
        by_place (λ g. true≢false (sym ((among_mem name (by_name i.items)).1 (says_once name [] (with_modifier is_by_name (given i.items)) (says_given is_by_name i.items name modifiers.NameLookup g refl))) ∙ e))

pub one_way : (module_of : List ℕ → Module) (i : IdlInterface) (name : List ℕ) (v w : Way) → WaySays module_of i name v → WaySays module_of i name w → v ≡ w
one_way module_of i name v w (by_its_name g) (by_its_name h) = refl
one_way module_of i name v w (by_its_name g) (by_place f) = absurd (f g)
one_way module_of i name v w (by_place f) (by_its_name g) = absurd (f g)
one_way module_of i name v w (by_place f) (by_place g) = refl

-- ---- what is introduced is declared

module _ (module_of : List ℕ → Module) (i : IdlInterface) where
  abbrev own : List Entry
  own = introduces module_of i

  abbrev names : List (List ℕ)
  names = by_name i.items

  -- an entry is a method that the interface declares, to be called as its items say
  abbrev pub IsDeclared : Entry → Type 0
  IsDeclared (entries.Introduced name sig way) = Declares module_of i name sig × (way ≡ way_of (by_name i.items) name)
  IsDeclared (entries.Moved name to) = ⊥

  accessor_declared : (readonly : Bool) (kind : TypeName) (ws : List Word) (w : Word) (e : Entry) → Mem (exports.Attribute readonly kind ws) (i.before ++ i.after) → Mem w ws
      → Mem e (accessors names readonly (type_of module_of kind) w.text) → IsDeclared e
  accessor_declared readonly kind ws w e m n (inl is) = subst IsDeclared (sym is) (a_reader readonly kind ws w m n, refl)
  accessor_declared true kind ws w e m n (inr k) = absurd k
  accessor_declared false kind ws w e m n (inr (inl is)) = subst IsDeclared (sym is) (a_writer kind ws w m n, refl)
  accessor_declared false kind ws w e m n (inr (inr k)) = absurd k

  export_declared : (x : Export) (e : Entry) → Mem x (i.before ++ i.after) → Mem e (export_entries module_of names x) → IsDeclared e
  export_declared (exports.Attribute readonly kind ws) e m n =
      let r = flat_mem (λ (w : Word). accessors names readonly (type_of module_of kind) w.text) e ws n in
      accessor_declared readonly kind ws r.0 e m r.1 r.2
  export_declared (exports.Operation result w ps) e m (inl is) = subst IsDeclared (sym is) (an_operation result w ps (map (kind_of module_of) ps) m (placed (kind_of module_of) ps), refl)
  export_declared (exports.Operation result w ps) e m (inr k) = absurd k

  pub declared : (e : Entry) → Mem e own → IsDeclared e
  declared e m = elim (mem_split e (flat_map (export_entries module_of names) i.before) (flat_map (export_entries module_of names) i.after) m) [
    | inl n ↦ (let r = flat_mem (export_entries module_of names) e i.before n in export_declared r.0 e (mem_left r.0 i.before i.after r.1) r.2)
    | inr n ↦ (let r = flat_mem (export_entries module_of names) e i.after n in export_declared r.0 e (mem_right r.0 i.before i.after r.1) r.2)
  ]

  -- and what is declared is introduced
  there : (x : Export) (e : Entry) → Mem x (i.before ++ i.after) → Mem e (export_entries module_of names x) → Mem e own
  there x e m n = elim (mem_split x i.before i.after m) [
    | inl k ↦ mem_left e (flat_map (export_entries module_of names) i.before) (flat_map (export_entries module_of names) i.after) (mem_flat (export_entries module_of names) e x i.before k n)
    | inr k ↦ mem_right e (flat_map (export_entries module_of names) i.before) (flat_map (export_entries module_of names) i.after) (mem_flat (export_entries module_of names) e x i.after k n)
  ]

  pub declared_there : (name : List ℕ) (sig : Sig) → Declares module_of i name sig → Mem (entries.Introduced name sig (way_of names name)) own
  declared_there name sig (an_operation result w ps kinds m p) =
      let made : Entry = method names w.text (result_of module_of result) kinds in
      let same : kinds ≡ map (kind_of module_of) ps = only_placed (kind_of module_of) ps kinds p in
      there (exports.Operation result w ps) made m (inl (ap (method names w.text (result_of module_of result)) same))
  declared_there name sig (a_reader readonly kind ws w m n) =
      let made : Entry = method names (reader w) (type_of module_of kind) [] in
      there (exports.Attribute readonly kind ws) made m (mem_flat (λ (w : Word). accessors names readonly (type_of module_of kind) w.text) made w ws n (inl refl))
  declared_there name sig (a_writer kind ws w m n) =
      let made : Entry = method names (writer w) types.Void (type_of module_of kind ∷ []) in
      there (exports.Attribute false kind ws) made m (mem_flat (λ (w : Word). accessors names false (type_of module_of kind) w.text) made w ws n (inr (inl refl)))

-- ---- the names, in the order of the text

pub introduced_both : (xs ys : List Entry) → introduced (xs ++ ys) ≡ introduced xs ++ introduced ys
introduced_both [] ys = refl
introduced_both (entries.Introduced name sig way ∷ xs) ys = ap (λ z. name ∷ z) (introduced_both xs ys)
introduced_both (entries.Moved name to ∷ xs) ys = introduced_both xs ys

module _ (module_of : List ℕ → Module) (names : List (List ℕ)) where
  accessor_names : (readonly : Bool) (kind : ValueType) (ws : List Word) → AccessorNames readonly ws (introduced (flat_map (λ (w : Word). accessors names readonly kind w.text) ws))
  accessor_names readonly kind [] = no_word
  accessor_names true kind (w ∷ ws) = one_reader (accessor_names true kind ws)
  accessor_names false kind (w ∷ ws) = reader_and_writer (accessor_names false kind ws)

  pub names_of : (es : List Export) → DeclaredNames es (introduced (flat_map (export_entries module_of names) es))
  names_of [] = no_export
  names_of (exports.Operation result w ps ∷ es) = one_operation (names_of es)
  names_of (exports.Attribute readonly kind ws ∷ es) =
      subst (DeclaredNames (exports.Attribute readonly kind ws ∷ es))
      (sym (introduced_both (flat_map (λ (w : Word). accessors names readonly (type_of module_of kind) w.text) ws) (flat_map (export_entries module_of names) es)))
      (one_attribute (accessor_names readonly (type_of module_of kind) ws) (names_of es))

pub declared_names : (module_of : List ℕ → Module) (i : IdlInterface) → DeclaredNames (i.before ++ i.after) (introduced (introduces module_of i))
declared_names module_of i =
    subst (λ (es : List Entry). DeclaredNames (i.before ++ i.after) (introduced es)) (flat_map-append (export_entries module_of (by_name i.items)) i.before i.after)
    (names_of module_of (by_name i.items) (i.before ++ i.after))

one_accessors : (readonly : Bool) (ws : List Word) (xs ys : List (List ℕ)) → AccessorNames readonly ws xs → AccessorNames readonly ws ys → xs ≡ ys
one_accessors readonly ws xs ys no_word no_word = refl
one_accessors readonly ws xs ys (one_reader {w = w} p) (one_reader q) = ap (λ z. reader w ∷ z) (one_accessors _ _ _ _ p q)
one_accessors readonly ws xs ys (reader_and_writer {w = w} p) (reader_and_writer q) = ap (λ z. reader w ∷ writer w ∷ z) (one_accessors _ _ _ _ p q)

-- they are one list
pub one_order : (es : List Export) (xs ys : List (List ℕ)) → DeclaredNames es xs → DeclaredNames es ys → xs ≡ ys
one_order es xs ys no_export no_export = refl
one_order es xs ys (one_operation {w = w} p) (one_operation q) = ap (λ z. w.text ∷ z) (one_order _ _ _ p q)
one_order es xs ys (one_attribute {readonly = readonly} {ws = ws} {own = own} {names = names} a p) (one_attribute {own = other} {names = more} b q) =
    ap (λ z. z ++ names) (one_accessors readonly ws own other a b) ∙ ap (λ z. other ++ z) (one_order _ _ _ p q)

-- ---- the names that a list misses

pub misses : (listed names : List (List ℕ)) → Misses listed names (without (λ name. among name listed) names)
misses listed [] = no_name
misses listed (name ∷ names) = by (among name listed) refl (misses listed names)
  where
    by : (b : Bool) → among name listed ≡ b → {rest : List (List ℕ)} → Misses listed names rest → Misses listed (name ∷ names) (if b then rest else name ∷ rest)
    by true e m = a_listed_name ((among_mem name listed).0 e) m
    by false e m = a_missed_name (λ n. true≢false (sym ((among_mem name listed).1 n) ∙ e)) m

pub one_rest : (listed all xs ys : List (List ℕ)) → Misses listed all xs → Misses listed all ys → xs ≡ ys
one_rest listed all xs ys no_name no_name = refl
one_rest listed all xs ys (a_listed_name m p) (a_listed_name n q) = one_rest _ _ _ _ p q
one_rest listed all xs ys (a_listed_name m p) (a_missed_name n q) = absurd (n m)
one_rest listed all xs ys (a_missed_name n p) (a_listed_name m q) = absurd (n m)
one_rest listed all xs ys (a_missed_name {name = name} m p) (a_missed_name n q) = ap (λ z. name ∷ z) (one_rest _ _ _ _ p q)
