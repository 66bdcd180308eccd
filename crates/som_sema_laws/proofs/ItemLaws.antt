-- What items override and select, item by item.
use Rattle.std.proofs.Common.{◌≡◌, ℕ, inl, inr, ◌⊎◌, Bool, true, false, if◌then◌else◌, List, [], ◌∷◌, ◌++◌, map, flat_map, slice_get, Some, refl, sym, ap, ◌∙◌, subst, append_assoc, true≢false}
use Rattle.std.proofs.lemmas.Grind.{flat_map-append}
use Rattle.std.proofs.lemmas.List.{append-nil}
use Rattle.std.specs.Str.{bytes_eq}
use Rattle.som_model.specs.declared.key.ClassKey.{ClassKey}
use Rattle.som_model.specs.declared.key.Module.{Module}
use Rattle.som_model.specs.declared.class.Override.{Override}
use Rattle.som_model.specs.declared.class.Select.{Select}
use Rattle.som_model.specs.Class.{Class}
use Rattle.som_model.specs.Lists.{Mem, among, without}
use Rattle.som_model_laws.specs.Once.{adds}
use Rattle.som_model_laws.proofs.Laws.{among_mem}
use Rattle.som_model_laws.proofs.Members.{Apart, mem_left, mem_split, not_true}
use Rattle.som_ast.specs.declared.words.Word.{Word}
use Rattle.som_ast.specs.declared.interface.IdlInterface.{IdlInterface}
use Rattle.som_ast.specs.declared.interface.Item.{Item}
use Rattle.som_ast.specs.declared.interface.Item.TheVariants as items
use Rattle.som_ast.specs.declared.interface.Modifier.{Modifier}
use Rattle.som_ast.specs.declared.interface.Modifier.TheVariants as modifiers
use Rattle.som_sema_scope.specs.ClassNames.{key_of}
use Rattle.som_sema_scope.specs.Words.{once}
use Rattle.som_sema_drafts.specs.Items.{Chosen, Given, chosen, chosen_by, given, if_given, is_override, is_select, overridden, selecting, with_modifier}
use Rattle.som_sema.proofs.TextLaws.{mem_of_once, says_once}
use Rattle.som_sema_laws.specs.Faces.{Gives}
use Rattle.som_sema_laws.specs.Replacing.{IsInherited, ItemGives, ItemOverrides, OverridesSay, SelectsSay, a_select, an_override, no_items, no_selects, not_a_select, not_an_override}
use Rattle.som_sema_laws.proofs.Declaring.{given_says, says_given}

-- ---- names that differ stand once as they are

once_all : (seen xs : List (List ℕ)) → Apart xs → ((a : List ℕ) → Mem a xs → Mem a seen → ⊥) → adds bytes_eq seen xs ≡ seen ++ xs
once_all seen [] a f = sym (append-nil seen)
once_all seen (x ∷ xs) a f =
    let new : among x seen ≡ false = not_true (among x seen) (λ t. f x (inl refl) ((among_mem x seen).0 t)) in
    ap (λ (b : Bool). adds bytes_eq (if b then seen else seen ++ x ∷ []) xs) new
    ∙ once_all (seen ++ x ∷ []) xs a.1 (λ y m n. still y m (mem_split y seen (x ∷ []) n))
    ∙ append_assoc seen (x ∷ []) xs
  where
    still : (y : List ℕ) → Mem y xs → Mem y seen ⊎ Mem y (x ∷ []) → ⊥
    still y m (inl n) = f y (inr m) n
    still y m (inr (inl e)) = a.0 (subst (λ z. Mem z xs) e m)
    still y m (inr (inr k)) = k

pub once_same : (xs : List (List ℕ)) → Apart xs → once xs ≡ xs
once_same xs a = once_all [] xs a (λ y m n. n)

-- ---- the modifiers of one item

abbrev given_to : Word → Modifier → Given
given_to w q = record { method = w.text; modifier = q }

-- one of the modifiers passes, so that the method is named once, or none does
abbrev OneOrNone : (Modifier → Bool) → Word → List Modifier → Type 0
OneOrNone test w ms = ((q : Modifier) × Mem q ms × (test q ≡ true) × (with_modifier test (map (given_to w) ms) ≡ w.text ∷ []))
    ⊎ (((q : Modifier) → Mem q ms → test q ≡ true → ⊥) × (with_modifier test (map (given_to w) ms) ≡ []))

one_or_none : (test : Modifier → Bool) (w : Word) (ms : List Modifier) → Apart (with_modifier test (map (given_to w) ms)) → OneOrNone test w ms
one_or_none test w [] a = inr ((λ q m e. m), refl)
one_or_none test w (q ∷ ms) a = by (test q) refl a (one_or_none test w ms)
  where
    taken : test q ≡ true → Apart (w.text ∷ with_modifier test (map (given_to w) ms)) → OneOrNone test w ms → OneOrNone test w (q ∷ ms)
    taken e a (inl r) = absurd (a.0 (subst (λ (z : List (List ℕ)). Mem w.text z) (sym r.3) (inl refl)))
    taken e a (inr r) = inl (q, inl refl, e, ap (λ (b : Bool). (if b then w.text ∷ [] else []) ++ with_modifier test (map (given_to w) ms)) e ∙ ap (λ z. w.text ∷ z) r.1)

    none : test q ≡ false → ((p : Modifier) → Mem p ms → test p ≡ true → ⊥) → (p : Modifier) → Mem p (q ∷ ms) → test p ≡ true → ⊥
    none e f p (inl is) t = true≢false (sym t ∙ ap test is ∙ e)
    none e f p (inr m) t = f p m t

    passed : test q ≡ false → OneOrNone test w ms → OneOrNone test w (q ∷ ms)
    passed e (inl r) = inl (r.0, inr r.1, r.2, ap (λ (b : Bool). (if b then w.text ∷ [] else []) ++ with_modifier test (map (given_to w) ms)) e ∙ r.3)
    passed e (inr r) = inr (none e r.0, ap (λ (b : Bool). (if b then w.text ∷ [] else []) ++ with_modifier test (map (given_to w) ms)) e ∙ r.1)

    by : (b : Bool) → test q ≡ b → Apart ((if b then w.text ∷ [] else []) ++ with_modifier test (map (given_to w) ms)) → (Apart (with_modifier test (map (given_to w) ms)) → OneOrNone test w ms) → OneOrNone test w (q ∷ ms)
    by true e a further = taken e a (further a.1)
    by false e a further = passed e (further a)

apart_left : {A : Type 0} (xs ys : List A) → Apart (xs ++ ys) → Apart xs
apart_left [] ys a = tt
apart_left (x ∷ xs) ys a = ((λ m. a.0 (mem_left x xs ys m)), apart_left xs ys a.1)

apart_right : {A : Type 0} (xs ys : List A) → Apart (xs ++ ys) → Apart ys
apart_right [] ys a = a
apart_right (x ∷ xs) ys a = apart_right xs ys a.1

-- the modifiers of a first item, and then the others
method_first : (test : Modifier → Bool) (w : Word) (ms : List Modifier) (is : List Item) → with_modifier test (given (items.Method w ms ∷ is)) ≡ with_modifier test (map (given_to w) ms) ++ with_modifier test (given is)
method_first test w ms is = flat_map-append (if_given test) (map (given_to w) ms) (given is)

override_is : (q : Modifier) → is_override q ≡ true → q ≡ modifiers.Override
override_is modifiers.Override e = refl
override_is modifiers.NameLookup e = absurd (true≢false (sym e))
override_is modifiers.Offset e = absurd (true≢false (sym e))
override_is (modifiers.Select p) e = absurd (true≢false (sym e))

select_is : (q : Modifier) → is_select q ≡ true → (p : Word) × (q ≡ modifiers.Select p)
select_is (modifiers.Select p) e = (p, refl)
select_is modifiers.Override e = absurd (true≢false (sym e))
select_is modifiers.NameLookup e = absurd (true≢false (sym e))
select_is modifiers.Offset e = absurd (true≢false (sym e))

-- what one item gives, it gives to the method of its word
word_is : (w v : Word) (ms ns : List Modifier) → items.Method w ms ≡ items.Method v ns → w ≡ v
word_is w v ms ns e = cc

modifiers_are : (w v : Word) (ms ns : List Modifier) → items.Method w ms ≡ items.Method v ns → ms ≡ ns
modifiers_are w v ms ns e = cc

-- ---- overrides

-- a method for each name
pub data Methods (P : List ℕ → Override → Type 0) : List (List ℕ) → List Override → Type 0 where
  no_method : Methods P [] []
  one_method : {name : List ℕ} {o : Override} {names : List (List ℕ)} {os : List Override} → P name o → Methods P names os → Methods P (name ∷ names) (o ∷ os)

module _ (module_of : List ℕ → Module) (cs : List Class) (i : IdlInterface) where
  abbrev pub Inherited : List ℕ → Override → Type 0
  Inherited name o = IsInherited module_of cs i name o.method

  abbrev selects_it : List ℕ → Bool
  selects_it name = among name (selecting i.items)

  selected : (name : List ℕ) → selects_it name ≡ true → (p : Word) × Gives i.items name (modifiers.Select p)
  selected name e =
      let g = given_says is_select i.items name (mem_of_once name (with_modifier is_select (given i.items)) e) in
      let s = select_is g.modifier g.passes in
      (s.0, subst (Gives i.items name) s.1 g.gives)

  unselected : (name : List ℕ) → selects_it name ≡ false → (p : Word) → Gives i.items name (modifiers.Select p) → ⊥
  unselected name e p g = true≢false (sym ((among_mem name (selecting i.items)).1 (says_once name [] (with_modifier is_select (given i.items)) (says_given is_select i.items name (modifiers.Select p) g refl))) ∙ e)

  -- an item of a method that is selected
  leaves : (w : Word) (ms : List Modifier) (v : Word) → selects_it w.text ≡ true → ItemOverrides i.items (items.Method w ms) v → ⊥
  leaves w ms v e o =
      let s = selected w.text e in
      let same : w ≡ v = word_is w v ms o.gives.modifiers o.gives.is in
      o.unselected s.0 (subst (λ (z : Word). Gives i.items z.text (modifiers.Select s.0)) same s.1)

  -- an item without `override`
  gives_none : (w : Word) (ms : List Modifier) (v : Word) → ((q : Modifier) → Mem q ms → is_override q ≡ true → ⊥) → ItemOverrides i.items (items.Method w ms) v → ⊥
  gives_none w ms v f o = f modifiers.Override (subst (λ (z : List Modifier). Mem modifiers.Override z) (sym (modifiers_are w v ms o.gives.modifiers o.gives.is)) o.gives.given) refl

  gives_it : (w : Word) (ms : List Modifier) (q : Modifier) → Mem q ms → is_override q ≡ true → selects_it w.text ≡ false → ItemOverrides i.items (items.Method w ms) w
  gives_it w ms q m e f = record {
    gives = record { modifiers = ms; is = refl; given = subst (λ (z : Modifier). Mem z ms) (override_is q e) m };
    unselected = unselected w.text f;
  }

  one_override : (w : Word) (ms : List Modifier) (is : List Item) (rest : List (List ℕ)) (os : List Override) (q : Modifier) → Mem q ms → is_override q ≡ true
      → (b : Bool) → selects_it w.text ≡ b → Methods Inherited (if b then without selects_it rest else w.text ∷ without selects_it rest) os
      → ((os : List Override) → Methods Inherited (without selects_it rest) os → OverridesSay module_of cs i is os) → OverridesSay module_of cs i (items.Method w ms ∷ is) os
  one_override w ms is rest os q m e true f p further = not_an_override (λ v o. leaves w ms v f o) (further os p)
  one_override w ms is rest (o ∷ os) q m e false f (one_method p ps) further = an_override w (gives_it w ms q m e f) p (further os ps)
  one_override w ms is rest [] q m e false f p further = elim p [ ]

  abbrev names_in : List Item → List (List ℕ)
  names_in is = with_modifier is_override (given is)

  overrides_by : (w : Word) (ms : List Modifier) (is : List Item) (os : List Override) → OneOrNone is_override w ms → Methods Inherited (without selects_it (names_in (items.Method w ms ∷ is))) os
      → ((os : List Override) → Methods Inherited (without selects_it (names_in is)) os → OverridesSay module_of cs i is os) → OverridesSay module_of cs i (items.Method w ms ∷ is) os
  overrides_by w ms is os (inl r) p further =
      let first : names_in (items.Method w ms ∷ is) ≡ w.text ∷ names_in is = method_first is_override w ms is ∙ ap (λ z. z ++ names_in is) r.3 in
      one_override w ms is (names_in is) os r.0 r.1 r.2 (selects_it w.text) refl (subst (λ (z : List (List ℕ)). Methods Inherited (without selects_it z) os) first p) further
  overrides_by w ms is os (inr r) p further =
      let first : names_in (items.Method w ms ∷ is) ≡ names_in is = method_first is_override w ms is ∙ ap (λ z. z ++ names_in is) r.1 in
      not_an_override (λ v o. gives_none w ms v r.0 o) (further os (subst (λ (z : List (List ℕ)). Methods Inherited (without selects_it z) os) first p))

  other : (x : Item) (v : Word) → ((ms : List Modifier) → x ≡ items.Method v ms → ⊥) → ItemOverrides i.items x v → ⊥
  other x v f o = f o.gives.modifiers o.gives.is

  each_override : (is : List Item) (os : List Override) → Apart (names_in is) → Methods Inherited (without selects_it (names_in is)) os → OverridesSay module_of cs i is os
  each_override [] [] a p = no_items
  each_override [] (o ∷ os) a p = elim p [ ]
  each_override (items.Method w ms ∷ is) os a p =
      let b = subst Apart (method_first is_override w ms is) a in
      overrides_by w ms is os (one_or_none is_override w ms (apart_left (with_modifier is_override (map (given_to w) ms)) (names_in is) b)) p
      (λ qs k. each_override is qs (apart_right (with_modifier is_override (map (given_to w) ms)) (names_in is) b) k)
  each_override (items.ReleaseOrder ws ∷ is) os a p = not_an_override (λ v o. other (items.ReleaseOrder ws) v (λ ms e. cc) o) (each_override is os a p)
  each_override (items.Metaclass w ∷ is) os a p = not_an_override (λ v o. other (items.Metaclass w) v (λ ms e. cc) o) (each_override is os a p)
  each_override (items.Major n ∷ is) os a p = not_an_override (λ v o. other (items.Major n) v (λ ms e. cc) o) (each_override is os a p)
  each_override (items.Minor n ∷ is) os a p = not_an_override (λ v o. other (items.Minor n) v (λ ms e. cc) o) (each_override is os a p)
  each_override (items.Variables kind ws ∷ is) os a p = not_an_override (λ v o. other (items.Variables kind ws) v (λ ms e. cc) o) (each_override is os a p)

  -- the overrides of the text
  pub overrides_say : (os : List Override) → Apart (with_modifier is_override (given i.items)) → Methods Inherited (overridden i.items) os → OverridesSay module_of cs i i.items os
  overrides_say os a p = each_override i.items os a (subst (λ (z : List (List ℕ)). Methods Inherited (without selects_it z) os) (once_same (names_in i.items) a) p)

-- ---- selects

abbrev chosen_of : Word → Word → Chosen
chosen_of w p = record { method = w.text; parent = p.text }

-- one of the modifiers selects, or none does
abbrev SelectOrNone : Word → List Modifier → Type 0
SelectOrNone w ms = ((p : Word) × Mem (modifiers.Select p) ms × (flat_map chosen_by (map (given_to w) ms) ≡ chosen_of w p ∷ []))
    ⊎ (((p : Word) → Mem (modifiers.Select p) ms → ⊥) × (flat_map chosen_by (map (given_to w) ms) ≡ []))

select_names : (w : Word) (ms : List Modifier) (p : Word) → Mem (modifiers.Select p) ms → Mem w.text (with_modifier is_select (map (given_to w) ms))
select_names w [] p m = absurd m
select_names w (q ∷ ms) p (inl e) = subst (λ (z : Modifier). Mem w.text (with_modifier is_select (map (given_to w) (z ∷ ms)))) e (inl refl)
select_names w (modifiers.Select s ∷ ms) p (inr m) = inr (select_names w ms p m)
select_names w (modifiers.Override ∷ ms) p (inr m) = select_names w ms p m
select_names w (modifiers.NameLookup ∷ ms) p (inr m) = select_names w ms p m
select_names w (modifiers.Offset ∷ ms) p (inr m) = select_names w ms p m

passed_by : (w : Word) (q : Modifier) (ms : List Modifier) → ((p : Word) → modifiers.Select p ≡ q → ⊥) → flat_map chosen_by (map (given_to w) (q ∷ ms)) ≡ flat_map chosen_by (map (given_to w) ms) → SelectOrNone w ms → SelectOrNone w (q ∷ ms)
passed_by w q ms f e (inl r) = inl (r.0, inr r.1, e ∙ r.2)
passed_by w q ms f e (inr r) = inr (none, e ∙ r.1)
  where
    none : (p : Word) → Mem (modifiers.Select p) (q ∷ ms) → ⊥
    none p (inl is) = f p is
    none p (inr m) = r.0 p m

taken_by : (w s : Word) (ms : List Modifier) → (Mem w.text (with_modifier is_select (map (given_to w) ms)) → ⊥) → SelectOrNone w ms → SelectOrNone w (modifiers.Select s ∷ ms)
taken_by w s ms f (inl r) = absurd (f (select_names w ms r.0 r.1))
taken_by w s ms f (inr r) = inl (s, inl refl, ap (λ z. chosen_of w s ∷ z) r.1)

select_or_none : (w : Word) (ms : List Modifier) → Apart (with_modifier is_select (map (given_to w) ms)) → SelectOrNone w ms
select_or_none w [] a = inr ((λ p m. m), refl)
select_or_none w (modifiers.Select s ∷ ms) a = taken_by w s ms a.0 (select_or_none w ms a.1)
select_or_none w (modifiers.Override ∷ ms) a = passed_by w modifiers.Override ms (λ p e. cc) refl (select_or_none w ms a)
select_or_none w (modifiers.NameLookup ∷ ms) a = passed_by w modifiers.NameLookup ms (λ p e. cc) refl (select_or_none w ms a)
select_or_none w (modifiers.Offset ∷ ms) a = passed_by w modifiers.Offset ms (λ p e. cc) refl (select_or_none w ms a)

-- a select for each that is chosen
pub data Selects (P : Chosen → Select → Type 0) : List Chosen → List Select → Type 0 where
  none_chosen : Selects P [] []
  one_chosen : {c : Chosen} {s : Select} {chosen : List Chosen} {ss : List Select} → P c s → Selects P chosen ss → Selects P (c ∷ chosen) (s ∷ ss)

module _ (module_of : List ℕ → Module) (cs : List Class) (i : IdlInterface) (parents : List ClassKey) where
  -- the method of its name, and the parent of its name
  pub record IsTaken (c : Chosen) (s : Select) : Type 0 where
    pub method : IsInherited module_of cs i c.method s.method
    pub parent : slice_get parents s.parent ≡ Some (key_of module_of c.parent)

  one_select : (w p : Word) (ms : List Modifier) (is : List Item) (rest : List Chosen) (ss : List Select) → Mem (modifiers.Select p) ms → Selects IsTaken (chosen_of w p ∷ rest) ss
      → ((ss : List Select) → Selects IsTaken rest ss → SelectsSay module_of cs i parents is ss) → SelectsSay module_of cs i parents (items.Method w ms ∷ is) ss
  one_select w p ms is rest (s ∷ ss) m (one_chosen t ts) further = a_select w p (record { modifiers = ms; is = refl; given = m }) t.method t.parent (further ss ts)
  one_select w p ms is rest [] m t further = elim t [ ]

  abbrev chosen_in_items : List Item → List Chosen
  chosen_in_items is = flat_map chosen_by (given is)

  chosen_first : (w : Word) (ms : List Modifier) (is : List Item) → chosen_in_items (items.Method w ms ∷ is) ≡ flat_map chosen_by (map (given_to w) ms) ++ chosen_in_items is
  chosen_first w ms is = flat_map-append chosen_by (map (given_to w) ms) (given is)

  none_given : (w : Word) (ms : List Modifier) (v p : Word) → ((p : Word) → Mem (modifiers.Select p) ms → ⊥) → ItemGives (items.Method w ms) v (modifiers.Select p) → ⊥
  none_given w ms v p f g = f p (subst (λ (z : List Modifier). Mem (modifiers.Select p) z) (sym (modifiers_are w v ms g.modifiers g.is)) g.given)

  selects_by : (w : Word) (ms : List Modifier) (is : List Item) (ss : List Select) → SelectOrNone w ms → Selects IsTaken (chosen_in_items (items.Method w ms ∷ is)) ss
      → ((ss : List Select) → Selects IsTaken (chosen_in_items is) ss → SelectsSay module_of cs i parents is ss) → SelectsSay module_of cs i parents (items.Method w ms ∷ is) ss
  selects_by w ms is ss (inl r) t further =
      let first : chosen_in_items (items.Method w ms ∷ is) ≡ chosen_of w r.0 ∷ chosen_in_items is = chosen_first w ms is ∙ ap (λ z. z ++ chosen_in_items is) r.2 in
      one_select w r.0 ms is (chosen_in_items is) ss r.1 (subst (λ (z : List Chosen). Selects IsTaken z ss) first t) further
  selects_by w ms is ss (inr r) t further =
      let first : chosen_in_items (items.Method w ms ∷ is) ≡ chosen_in_items is = chosen_first w ms is ∙ ap (λ z. z ++ chosen_in_items is) r.1 in
      not_a_select (λ v p g. none_given w ms v p r.0 g) (further ss (subst (λ (z : List Chosen). Selects IsTaken z ss) first t))

  not_method : (x : Item) (v p : Word) → ((ms : List Modifier) → x ≡ items.Method v ms → ⊥) → ItemGives x v (modifiers.Select p) → ⊥
  not_method x v p f g = f g.modifiers g.is

  -- the selects of the text
  each_select : (is : List Item) (ss : List Select) → Apart (with_modifier is_select (given is)) → Selects IsTaken (chosen_in_items is) ss → SelectsSay module_of cs i parents is ss
  each_select [] [] a t = no_selects
  each_select [] (s ∷ ss) a t = elim t [ ]
  each_select (items.Method w ms ∷ is) ss a t =
      let b = subst Apart (method_first is_select w ms is) a in
      selects_by w ms is ss (select_or_none w ms (apart_left (with_modifier is_select (map (given_to w) ms)) (with_modifier is_select (given is)) b)) t
      (λ qs k. each_select is qs (apart_right (with_modifier is_select (map (given_to w) ms)) (with_modifier is_select (given is)) b) k)
  each_select (items.ReleaseOrder ws ∷ is) ss a t = not_a_select (λ v p g. not_method (items.ReleaseOrder ws) v p (λ ms e. cc) g) (each_select is ss a t)
  each_select (items.Metaclass w ∷ is) ss a t = not_a_select (λ v p g. not_method (items.Metaclass w) v p (λ ms e. cc) g) (each_select is ss a t)
  each_select (items.Major n ∷ is) ss a t = not_a_select (λ v p g. not_method (items.Major n) v p (λ ms e. cc) g) (each_select is ss a t)
  each_select (items.Minor n ∷ is) ss a t = not_a_select (λ v p g. not_method (items.Minor n) v p (λ ms e. cc) g) (each_select is ss a t)
  each_select (items.Variables kind ws ∷ is) ss a t = not_a_select (λ v p g. not_method (items.Variables kind ws) v p (λ ms e. cc) g) (each_select is ss a t)

  pub selects_say : (ss : List Select) → Apart (with_modifier is_select (given i.items)) → Selects IsTaken (chosen i.items) ss → SelectsSay module_of cs i parents i.items ss
  selects_say ss a t = each_select i.items ss a t
