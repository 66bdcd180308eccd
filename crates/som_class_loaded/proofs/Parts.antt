-- What there is of the classes that are made, when one more is.
use Rattle.std.proofs.Common.{◌≡◌, ◌≢◌, ◌⊎◌, ℕ, ◌<◌, inl, inr, Bool, true, false, List, [], length, map, Option, replicate, slice_set, refl, sym, ap, ◌∙◌, subst, arith}
use Rattle.std.specs.Option.{option_map_or}
use Rattle.std.proofs.lemmas.Bool.{cases_lt}
use Rattle.std.proofs.lemmas.List.{length-replicate}
use Rattle.som_model.specs.Lists.{Mem}
use Rattle.som_model.specs.Classes.{hierarchy, parents_of}
use Rattle.som_model.proofs.NamedLaws.{hierarchy_parents}
use Rattle.som_tables.specs.Layout.{Extends}
use Rattle.som_tables.specs.Rows.{HasRow}
use Rattle.som_model_laws.proofs.Lists.{map_mem}
use Rattle.som_meta.specs.Numbering.{AreApart, AreNumbered, IsNumbered, Numbering, key_at}
use Rattle.som_names.specs.declared.named.Named.{Named}
use Rattle.som_names.specs.Index.{KeepsOthers, ancestors_at, named_at}
use Rattle.som_class_loaded.specs.Added.{HasClass}
use Rattle.som_class_bodies.specs.Bodies.{AreBodies, MethodRows}
use Rattle.som_class_variables.specs.Placed.{ArePlaces, DataRows}
use Rattle.som_class_table.specs.Making.{IsMarked}
use Rattle.som_class_loaded.specs.Made.{AreHooks, AreParts, HaveMadeBelow, IsWhole, KeepsFilled, KeepsMade, Parts, hooks_at}
use Rattle.som_class_loaded.proofs.Marks.{long_set, marked_set, none_marked, set_other, set_there}
use Rattle.som_class_loaded.proofs.Filled.{still_filled}

-- a number is another or not
same_or_not : (m n : ℕ) → (m ≡ n) ⊎ (m ≢ n)
same_or_not m n = elim (cases_lt m n) [
  | inl lt ↦ inr (λ e. omega (arith, lt, e))
  | inr ge ↦ elim (cases_lt n m) [ inl lt ↦ inr (λ e. omega (arith, lt, e)) | inr le ↦ inl (omega (arith, ge, le)) ]
]

-- the parents of a class whose lower parents are made
pub parent_made : (k : Numbering) (made : List Bool) (n : ℕ) → HaveMadeBelow k made n
    → ((p : ℕ) → IsNumbered k p → Mem (key_at k p) (parents_of k.classes (key_at k n)) → p < n)
    → (p : ℕ) → IsNumbered k p → Mem (key_at k p) ((hierarchy k.classes).parents (key_at k n)) → IsMarked made p
parent_made k made n below lower p num m =
    let at : Mem (key_at k p) (parents_of k.classes (key_at k n)) = subst (λ z. Mem (key_at k p) z) (hierarchy_parents k.classes (key_at k n)) m in
    below p (lower p num at) at

-- parents have lower numbers
pub parents_low : (k : Numbering) → AreApart k → (n : ℕ) → IsNumbered k n → (ps : List ℕ) → ((p : ℕ) → Mem p ps → p < n)
    → map (key_at k) ps ≡ (hierarchy k.classes).parents (key_at k n)
    → (p : ℕ) → IsNumbered k p → Mem (key_at k p) (parents_of k.classes (key_at k n)) → p < n
parents_low k apart n num ps low keyed p ip m =
    let keys : map (key_at k) ps ≡ parents_of k.classes (key_at k n) = keyed ∙ hierarchy_parents k.classes (key_at k n) in
    let r = map_mem (key_at k) (key_at k p) ps (subst (λ z. Mem (key_at k p) z) (sym keys) m) in
    let lt = low r.0 r.1 in
    let iq : IsNumbered k r.0 = omega (arith, lt, num) in
    let same : p ≡ r.0 = apart p r.0 ip iq r.2 in
    omega (arith, same, lt)

-- ---- steps that leave all as it was, and steps one after the other

pub made_itself : (v : Parts) → KeepsMade v v
made_itself v = record {
  bodies = λ i x e. e;
  made = λ n m. m;
  methods = λ n m. refl;
  variables = λ n m. refl;
  names = λ n m. refl;
  hooks = λ n m. refl;
}

pub made_through : (u v w : Parts) → KeepsMade u v → KeepsMade v w → KeepsMade u w
made_through u v w a b = record {
  bodies = λ i x e. b.bodies i x (a.bodies i x e);
  made = λ n m. b.made n (a.made n m);
  methods = λ n m. b.methods n (a.made n m) ∙ a.methods n m;
  variables = λ n m. b.variables n (a.made n m) ∙ a.variables n m;
  names = λ n m. b.names n (a.made n m) ∙ a.names n m;
  hooks = λ n m. b.hooks n (a.made n m) ∙ a.hooks n m;
}

-- ---- rows

abbrev pub with_methods : Parts → MethodRows → Parts
with_methods v bodies = record { bodies = bodies; places = v.places; names = v.names; made = v.made; hooks = v.hooks }

abbrev pub with_variables : Parts → DataRows → Parts
with_variables v places = record { bodies = v.bodies; places = places; names = v.names; made = v.made; hooks = v.hooks }

module _ (k : Numbering) (v : Parts) (are : AreParts k v) where
  pub methods_are : (bodies : MethodRows) → AreBodies k bodies → KeepsFilled v.bodies.rows bodies.rows → AreParts k (with_methods v bodies)
  methods_are bodies is kept = record {
    bodies = is;
    places = are.places;
    marks = are.marks;
    long = are.long;
    whole = λ n m. (let w = are.whole n m in record { methods = still_filled v.bodies.rows bodies.rows kept n w.methods; variables = w.variables; names = w.names; above = w.above; hooks_are = w.hooks_are });
    unnamed = are.unnamed;
  }

  pub methods_keep : (bodies : MethodRows) → Extends v.bodies.bodies bodies.bodies → KeepsFilled v.bodies.rows bodies.rows → KeepsMade v (with_methods v bodies)
  methods_keep bodies earlier kept = record {
    bodies = earlier;
    made = λ n m. m;
    methods = λ n m. kept n (are.whole n m).methods;
    variables = λ n m. refl;
    names = λ n m. refl;
    hooks = λ n m. refl;
  }

  pub variables_are : (places : DataRows) → ArePlaces k places → KeepsFilled v.places.rows places.rows → AreParts k (with_variables v places)
  variables_are places is kept = record {
    bodies = are.bodies;
    places = is;
    marks = are.marks;
    long = are.long;
    whole = λ n m. (let w = are.whole n m in record { methods = w.methods; variables = still_filled v.places.rows places.rows kept n w.variables; names = w.names; above = w.above; hooks_are = w.hooks_are });
    unnamed = are.unnamed;
  }

  pub variables_keep : (places : DataRows) → KeepsFilled v.places.rows places.rows → KeepsMade v (with_variables v places)
  variables_keep places kept = record {
    bodies = λ i x e. e;
    made = λ n m. m;
    methods = λ n m. refl;
    variables = λ n m. kept n (are.whole n m).variables;
    names = λ n m. refl;
    hooks = λ n m. refl;
  }

-- both rows
abbrev pub with_rows : Parts → MethodRows → DataRows → Parts
with_rows v bodies places = with_variables (with_methods v bodies) places

module _ (k : Numbering) (v : Parts) (are : AreParts k v) (bodies : MethodRows) (places : DataRows) (is : AreBodies k bodies) (earlier : Extends v.bodies.bodies bodies.bodies)
    (kept : KeepsFilled v.bodies.rows bodies.rows) (has : ArePlaces k places) (stays : KeepsFilled v.places.rows places.rows) where
  pub rows_are : AreParts k (with_rows v bodies places)
  rows_are = variables_are k (with_methods v bodies) (methods_are k v are bodies is kept) places has stays

  pub rows_keep : KeepsMade v (with_rows v bodies places)
  rows_keep =
      made_through v (with_methods v bodies) (with_rows v bodies places) (methods_keep k v are bodies earlier kept)
      (variables_keep k (with_methods v bodies) (methods_are k v are bodies is kept) places stays)

-- ---- one class more that is made

abbrev pub with_class : Parts → List (ℕ × Named) → ℕ → List ℕ → Parts
with_class v names n hs = record { bodies = v.bodies; places = v.places; names = names; made = slice_set v.made n true; hooks = slice_set v.hooks n hs }

module _ (k : Numbering) (v : Parts) (are : AreParts k v) (n : ℕ) (num : IsNumbered k n) (new : IsMarked v.made n → ⊥)
    (names : List (ℕ × Named)) (others : KeepsOthers v.names names n) (hs : List ℕ) where
  in_marks : n < length v.made
  in_marks = omega (arith, num, are.marks)

  in_hooks : n < length v.hooks
  in_hooks = omega (arith, num, are.long)

  -- one of the classes made before is another
  another : (m : ℕ) → IsMarked v.made m → m ≢ n
  another m im e = new (subst (IsMarked v.made) e im)

  name_kept : (m : ℕ) → IsMarked v.made m → named_at names m ≡ named_at v.names m
  name_kept m im = others m (another m im)

  hooks_kept : (m : ℕ) → IsMarked v.made m → hooks_at (slice_set v.hooks n hs) m ≡ hooks_at v.hooks m
  hooks_kept m im = set_other v.hooks n m hs [] (another m im)

  pub class_keeps : KeepsMade v (with_class v names n hs)
  class_keeps = record {
    bodies = λ i x e. e;
    made = λ m im. (marked_set v.made n m in_marks).1 (inl im);
    methods = λ m im. refl;
    variables = λ m im. refl;
    names = name_kept;
    hooks = hooks_kept;
  }

  whole_before : (m : ℕ) → IsMarked v.made m → IsWhole k (with_class v names n hs) m
  whole_before m im =
      let w = are.whole m im in
      let c = w.names in
      record {
        methods = w.methods;
        variables = w.variables;
        names = record { numbered = c.numbered; added = c.added; there = name_kept m im ∙ c.there; ancestors = c.ancestors; names = c.names; tokens = c.tokens };
        above = subst (λ z. AreNumbered k z) (ap (λ (o : Option Named). option_map_or (λ (e : Named). e.ancestors) o []) (sym (name_kept m im))) w.above;
        hooks_are = subst (AreHooks k m) (sym (hooks_kept m im)) w.hooks_are;
      }

  pub class_are : HasRow v.bodies.rows n → HasRow v.places.rows n → HasClass k names n → AreNumbered k (ancestors_at names n) → AreHooks k n hs → AreParts k (with_class v names n hs)
  class_are methods variables has numbers hooks_of_it = record {
    bodies = are.bodies;
    places = are.places;
    marks = long_set v.made n true ∙ are.marks;
    long = long_set v.hooks n hs ∙ are.long;
    whole = λ m im. elim ((marked_set v.made n m in_marks).0 im) [
      | inl before ↦ whole_before m before
      | inr e ↦ subst (IsWhole k (with_class v names n hs)) (sym e) (record { methods = methods; variables = variables; names = has; above = numbers; hooks_are = subst (AreHooks k n) (sym (set_there v.hooks n hs [] in_hooks)) hooks_of_it })
    ];
    unnamed = λ m un.
        (let ne : m ≢ n = (λ e. un ((marked_set v.made n m in_marks).1 (inr e))) in
        others m ne ∙ are.unnamed m (λ im. un ((marked_set v.made n m in_marks).1 (inl im))));
  }

-- ---- nothing yet

pub none_yet : (k : Numbering) (v : Parts) (count : ℕ) → AreBodies k v.bodies → ArePlaces k v.places → v.made ≡ replicate count false → length v.hooks ≡ count → count ≡ length k.keys → v.names ≡ []
    → AreParts k v
none_yet k v count bodies places made long all names = record {
  bodies = bodies;
  places = places;
  marks = ap length made ∙ length-replicate count false ∙ all;
  long = long ∙ all;
  whole = λ n m. absurd (none_marked count n (subst (λ z. IsMarked z n) made m));
  unnamed = λ n un. ap (λ (z : List (ℕ × Named)). named_at z n) names;
}

pub none_there : (made : List Bool) (count : ℕ) → made ≡ replicate count false → (n : ℕ) → IsMarked made n → ⊥
none_there made count e n m = none_marked count n (subst (λ z. IsMarked z n) e m)
