-- What classes have and select, of any numbering of classes that are loaded.
use Rattle.std.proofs.Common.{◌≡◌, ◌≢◌, ℕ, zero, suc, ◌+◌, ◌<◌, ◌≤◌, inl, inr, false, List, [], ◌∷◌, ◌++◌, length, map, Option, Some, None, IsSome, is_some, slice_get, refl, sym, ap, ◌∙◌, subst, arith, true≢false}
use Rattle.std.proofs.lemmas.List.Elements.{recursion_from_All}
use Rattle.std.specs.Option.{option_map}
use Rattle.std.proofs.lemmas.Option.{same_Some, slice_get_within}
use Rattle.som_model.specs.declared.key.ClassKey.{ClassKey}
use Rattle.som_model.specs.declared.key.ClassKey.TheVariants as keys
use Rattle.som_model.specs.Lists.{Mem}
use Rattle.som_model.specs.Ancestors.{Descends}
use Rattle.som_model.specs.Class.{Class}
use Rattle.som_model.specs.Classes.{class_at, hierarchy}
use Rattle.som_model.specs.Kernel.{kernel}
use Rattle.som_model.specs.Implementation.{forwards, has_body, implementation, selected}
use Rattle.som_model_laws.proofs.Members.{Apart}
use Rattle.som_model_laws.proofs.Lists.{get_mem, mem_get, mem_map}
use Rattle.som_model_laws.proofs.Standing as standing
use Rattle.som_tables.specs.Rows.{Added, HasRow, HasToken, inherited, row_at}
use Rattle.som_tables.proofs.Inherited.{HasToken_row}
use Rattle.som_tables.proofs.Options.{none_is_not_some}
use Rattle.som_meta.specs.Numbering.{AreTokens, IsNumbered, IsToken, Numbering, key_at, method_at, names_of, tokens_from, tokens_of}
use Rattle.som_meta.proofs.Tokens.{tokens_are}
use Rattle.som_class_layout_laws.proofs.Rows.{cell_answers, has_token, none_laid}
use Rattle.som_class_layout_laws.specs.Schemes.{numbered, scheme_of}
use Rattle.som_class_methods.specs.Members.{HaveTokens, override_method, select_method}
use Rattle.som_class_methods.proofs.Own.{some_class}
use Rattle.som_class_table.specs.Loaded.{AreLoaded}
use Rattle.som_class_bodies.specs.declared.adding.Way.TheVariants as ways
use Rattle.som_class_bodies.specs.declared.body.BodyAt.{BodyAt}
use Rattle.som_class_bodies.specs.Bodies.{AreBodies, HaveParentRows, IsAnswer, IsSourced, MethodRows, body_of, rows_with}
use Rattle.som_class_bodies.specs.Adding.{AreOfClass, AreOthers, AreOwn, AreSelected, AreChosen, HaveChosen, body_at, bodies_from, life, methods_of, own_way_of, source_of}
use Rattle.som_class_bodies.specs.Filling.{IsDraft, IsFilling}
use Rattle.som_class_bodies.specs.declared.bodies.Draft.{Draft}
use Rattle.som_class_bodies.proofs.Lists.{all_mem}
use Rattle.som_class_bodies.proofs.Cells.{body_from, methods_both, methods_from}
use Rattle.som_class_bodies.proofs.Run.{IsRun, run_of, same_numbering, scheme}
use Rattle.som_class_bodies.proofs.Sources.{own_source}
use Rattle.som_class_bodies.proofs.Overriding.{over_all, over_source, over_token, overs_apart, overs_few, select_all, select_none, select_some, select_token, sels_apart}
use Rattle.som_class_bodies.proofs.Proxying.{derived_none, forward_source, init_source, none_selected, other, proxy_all, proxy_apart, uninit_source}
use Rattle.som_class_bodies.proofs.Rows.{below_row, distinct_row, few_own, filled_row, inherited_row, seen, sourced_more}

-- what holds of the classes of a run, as the kernel's and others, holds of each numbering that is loaded
pub of_loaded : (P : Numbering → Type 0) → ((cs : List Class) (ks : List ClassKey) → IsRun cs ks → P (numbered cs ks)) → (k : Numbering) → AreLoaded k → P k
of_loaded P f k l = subst P (sym (same_numbering k l)) (f l.others k.keys (run_of k l))

-- ---- the bodies for the methods that a class introduces

token_mem : (n p count : ℕ) (t : ℕ × ℕ) → Mem t (tokens_from n p count) → t.0 ≡ n
token_mem n p zero t m = absurd m
token_mem n p (suc count) t (inl is) = ap (λ (z : ℕ × ℕ). z.0) is
token_mem n p (suc count) t (inr m) = token_mem n (suc p) count t m

abbrev Owns : Numbering → Type 0
Owns k = (n : ℕ) → IsNumbered k n → AreOwn k n (bodies_from n (own_way_of k n) 0 (tokens_of k n))

owns_run : (cs : List Class) (ks : List ClassKey) → IsRun cs ks → Owns (numbered cs ks)
owns_run cs ks run n num =
    let k = numbered cs ks in
    record {
      methods = methods_from n (own_way_of k n) 0 (tokens_of k n);
      each = λ x m.
          let r = body_from n (own_way_of k n) 0 (tokens_of k n) x m in
          let mem = get_mem (tokens_of k n) r.0 r.1 r.2 in
          let is : IsToken k r.1 = all_mem (IsToken k) (tokens_of k n) (recursion_from_All (IsToken k) (tokens_of k n) (tokens_are k n num)) r.1 mem in
          let class = token_mem n 0 (length (names_of k n)) r.1 mem in
          let source = own_source cs ks run r.1 (r.0 + 0) is in
          (ap (λ (z : BodyAt). z.class) r.3, subst (λ (z : BodyAt). IsSourced k z) (sym r.3) (subst (λ c. IsSourced k (body_at c r.1 (source_of (own_way_of k c) r.1 (r.0 + 0)))) class source));
    }

pub owns : (k : Numbering) → AreLoaded k → Owns k
owns = of_loaded Owns owns_run

-- ---- what declared classes override

abbrev Overrides : Numbering → Type 0
Overrides k = (n : ℕ) (overs : List (ℕ × ℕ)) → n < length k.classes → ((c : Class) → slice_get k.classes n ≡ Some c → HaveTokens k (map override_method c.decl.overrides) overs)
    → AreOthers k n (bodies_from n ways.Overriding 0 overs) × (length overs ≤ 65535)

overrides_run : (cs : List Class) (ks : List ClassKey) → IsRun cs ks → Overrides (numbered cs ks)
overrides_run cs ks run n overs lt have =
    let k = numbered cs ks in
    let c = some_class (kernel ++ cs) n lt in
    let h = have c.0 c.1 in
    let are = methods_from n ways.Overriding 0 overs in (
      record {
        each = λ x m.
            let r = body_from n ways.Overriding 0 overs x m in
            let sum : r.0 ≡ r.0 + 0 = omega arith in
            let source = over_source cs ks run n c.0 c.1 overs h r.0 r.1 r.2 in
            (ap (λ (z : BodyAt). z.class) r.3, subst (λ (z : BodyAt). IsSourced k z) (sym r.3) (subst (λ j. IsSourced k (body_at n r.1 (source_of ways.Overriding r.1 j))) sum source));
        other = λ x m. (
            let r = body_from n ways.Overriding 0 overs x m in
            subst (λ (z : BodyAt). z.method.0 ≢ n) (sym r.3) (over_token cs ks run n c.0 c.1 overs h r.1 (get_mem overs r.0 r.1 r.2)).1);
        all = λ t is ne e. subst (λ l. Mem t l) (sym are) (over_all cs ks run n c.0 c.1 overs h t is ne e);
        apart = subst Apart (sym are) (overs_apart cs ks run n c.0 c.1 overs h);
      },
      overs_few cs ks run n c.0 c.1 overs h,
    )

pub overrides : (k : Numbering) → AreLoaded k → Overrides k
overrides = of_loaded Overrides overrides_run

-- ---- what they select

pub record AreSelecting (k : Numbering) (n : ℕ) (ts : List (ℕ × ℕ)) : Type 0 where
  pub token : (t : ℕ × ℕ) → Mem t ts → IsToken k t × (t.0 ≢ n)
  pub no_body : (t : ℕ × ℕ) → Mem t ts → has_body k.classes (method_at k t) (key_at k n) ≡ false
  pub chosen : (t : ℕ × ℕ) → Mem t ts → IsSome (selected k.classes (method_at k t) (key_at k n))
  pub all : (t : ℕ × ℕ) → IsToken k t → IsSome (selected k.classes (method_at k t) (key_at k n)) → Mem t ts
  pub apart : Apart ts

abbrev Selects : Numbering → Type 0
Selects k = (n : ℕ) (sels : List (ℕ × ℕ)) → n < length k.classes → ((c : Class) → slice_get k.classes n ≡ Some c → HaveTokens k (map select_method c.decl.selects) sels) → AreSelecting k n sels

selects_run : (cs : List Class) (ks : List ClassKey) → IsRun cs ks → Selects (numbered cs ks)
selects_run cs ks run n sels lt have =
    let c = some_class (kernel ++ cs) n lt in
    let h = have c.0 c.1 in
    record {
      token = select_token cs ks run n c.0 c.1 sels h;
      no_body = select_none cs ks run n c.0 c.1 sels h;
      chosen = select_some cs ks run n c.0 c.1 sels h;
      all = select_all cs ks run n c.0 c.1 sels h;
      apart = sels_apart cs ks run n c.0 c.1 sels h;
    }

pub selects : (k : Numbering) → AreLoaded k → Selects k
selects = of_loaded Selects selects_run

-- the cells of what a class selects
pub are_selected : (k : Numbering) (rows : List (Option (Added ℕ))) (n : ℕ) (ts : List (ℕ × ℕ)) (rs : List ((ℕ × ℕ) × ℕ)) → AreSelecting k n ts → AreChosen k rows n ts rs → AreSelected k rows n rs
are_selected k rows n ts rs s c = record {
  each = λ r m.
      let mem : Mem r.0 ts = subst (λ l. Mem r.0 l) c.tokens (mem_map (λ (z : (ℕ × ℕ) × ℕ). z.0) r rs m) in
      let t = s.token r.0 mem in
      record { token = t.0; other = t.1; no_body = s.no_body r.0 mem; cell = c.each r m };
  all = λ t is e. subst (λ l. Mem t l) (sym c.tokens) (s.all t is e);
  apart = subst Apart (sym c.tokens) s.apart;
}

-- ---- made classes

abbrev MadeNothing : Numbering → Type 0
MadeNothing k = (rows : List (Option (Added ℕ))) (n : ℕ) → IsNumbered k n → length k.classes ≤ n → AreSelected k rows n []

made_run : (cs : List Class) (ks : List ClassKey) → IsRun cs ks → MadeNothing (numbered cs ks)
made_run cs ks run rows n num le =
    let k = numbered cs ks in
    let all = kernel ++ cs in
    record {
      each = λ r m. absurd m;
      all = λ t is e. absurd (true≢false (sym e ∙ ap is_some (none_selected cs ks run n (unknown (class_at all (key_at k n)) refl) (method_at k t))));
      apart = tt;
    }
  where
    unknown : (q : Option Class) → class_at (kernel ++ cs) (key_at (numbered cs ks) n) ≡ q → q ≡ None
    unknown None e = refl
    unknown (Some c) e = absurd (
        let f = standing.found_is cs run.loads.faces.ordered (key_at (numbered cs ks) n) c e in
        let i = mem_get (kernel ++ cs) c f.0 in
        let same : i.0 ≡ n = run.apart i.0 n (run.first.numbered i.0 c i.1) num (run.first.key i.0 c i.1 ∙ f.1) in
        let lt = slice_get_within (kernel ++ cs) i.0 c i.1 in
        omega (arith, same, lt, le))

pub made_nothing : (k : Numbering) → AreLoaded k → MadeNothing k
made_nothing = of_loaded MadeNothing made_run

abbrev Derived : Numbering → Type 0
Derived k = (n : ℕ) (ps : List ClassKey) → key_at k n ≡ keys.Derived ps → AreOthers k n []

derived_run : (cs : List Class) (ks : List ClassKey) → IsRun cs ks → Derived (numbered cs ks)
derived_run cs ks run n ps key = record {
  each = λ x m. absurd m;
  other = λ x m. absurd m;
  all = λ t is ne e. absurd (true≢false (sym e ∙ derived_none cs ks run n ps key (method_at (numbered cs ks) t)));
  apart = tt;
}

pub derived : (k : Numbering) → AreLoaded k → Derived k
derived = of_loaded Derived derived_run

abbrev Proxies : Numbering → Type 0
Proxies k = (n : ℕ) (of : ClassKey) → IsNumbered k n → key_at k n ≡ keys.Proxy of → (ts : List (ℕ × ℕ)) → AreTokens k ts → map (method_at k) ts ≡ forwards k.classes of
    → AreOthers k n (bodies_from n ways.Nothing 0 life ++ bodies_from n ways.Forward 0 ts)

proxies_run : (cs : List Class) (ks : List ClassKey) → IsRun cs ks → Proxies (numbered cs ks)
proxies_run cs ks run n of num key ts tokens methods =
    let k = numbered cs ks in
    let are : (t : ℕ × ℕ) → Mem t ts → IsToken k t = all_mem (IsToken k) ts (recursion_from_All (IsToken k) ts tokens) in
    let ms : methods_of (bodies_from n ways.Nothing 0 life ++ bodies_from n ways.Forward 0 ts) ≡ (0, 0) ∷ (0, 1) ∷ ts =
    methods_both (bodies_from n ways.Nothing 0 life) (bodies_from n ways.Forward 0 ts) ∙ ap (λ l. life ++ l) (methods_from n ways.Forward 0 ts) in
    let each : AreOfClass k n (bodies_from n ways.Nothing 0 life ++ bodies_from n ways.Forward 0 ts) = λ x m. elim m [
      | inl is ↦ (ap (λ (z : BodyAt). z.class) is, subst (λ (z : BodyAt). IsSourced k z) (sym is) (init_source cs ks run n of num key 0))
      | inr w ↦ elim w [
        | inl is ↦ (ap (λ (z : BodyAt). z.class) is, subst (λ (z : BodyAt). IsSourced k z) (sym is) (uninit_source cs ks run n of num key 1))
        | inr v ↦ (let r = body_from n ways.Forward 0 ts x v in
            (ap (λ (z : BodyAt). z.class) r.3, subst (λ (z : BodyAt). IsSourced k z) (sym r.3) (forward_source cs ks run n of num key ts are methods r.1 (r.0 + 0) (get_mem ts r.0 r.1 r.2))))
      ]
    ] in
    record {
      each = each;
      other = λ x m. other cs ks run n of num key x.method (each x m).1.method;
      all = λ t is ne e. subst (λ l. Mem t l) (sym ms) (proxy_all cs ks run n of num key ts are methods t is e);
      apart = subst Apart (sym ms) (proxy_apart cs ks run n of num key ts are methods);
    }

pub proxies : (k : Numbering) → AreLoaded k → Proxies k
proxies = of_loaded Proxies proxies_run

-- ---- rows

abbrev Fills : Numbering → Type 0
Fills k = (rows : List (Option (Added ℕ))) (before : List BodyAt) → AreBodies k (rows_with rows before) → (n : ℕ) → IsNumbered k n → (parents : List ℕ) → map (key_at k) parents ≡ (hierarchy k.classes).parents (key_at k n)
    → ((p : ℕ) → Mem p parents → p < n) → HaveParentRows k (rows_with rows before) n → (d : Draft) → IsDraft k rows n d → IsFilling k rows before n parents d

fills_run : (cs : List Class) (ks : List ClassKey) → IsRun cs ks → Fills (numbered cs ks)
fills_run cs ks run rows before laid n num parents keys lower have d is = record {
  few = few_own cs ks run rows before laid n num parents keys lower have d.own d.others d.selected is.own is.others is.selected;
  below = below_row cs ks run rows before laid n num parents keys lower have d.own d.others d.selected is.own is.others is.selected;
  above = inherited_row cs ks run rows before laid n num parents keys lower have d.own d.others d.selected is.own is.others is.selected;
  distinct = distinct_row cs ks run rows before laid n num parents keys lower have d.own d.others d.selected is.own is.others is.selected;
  first = sourced_more (numbered cs ks) n before d.own laid.sourced is.own.each;
  second = sourced_more (numbered cs ks) n (before ++ d.own) d.others (sourced_more (numbered cs ks) n before d.own laid.sourced is.own.each) is.others.each;
  filled = filled_row cs ks run rows before laid n num parents keys lower have d.own d.others d.selected is.own is.others is.selected;
}

pub fills : (k : Numbering) → AreLoaded k → Fills k
fills = of_loaded Fills fills_run

-- where parents have rows, so has each that is selected, with the token of the method
abbrev ChosenRows : Numbering → Type 0
ChosenRows k = (rows : List (Option (Added ℕ))) (all : List BodyAt) → AreBodies k (rows_with rows all) → (n : ℕ) → HaveParentRows k (rows_with rows all) n → HaveChosen k rows n

chosen_run : (cs : List Class) (ks : List ClassKey) → IsRun cs ks → ChosenRows (numbered cs ks)
chosen_run cs ks run rows all laid n have t p is num e =
    let k = numbered cs ks in
    let picks = ((scheme cs ks run).methods t is).picks in
    has_token (scheme_of k) (scheme cs ks run) (body_of k all) rows laid.laid p t (have p num (picks.parent (key_at k n) (key_at k p) e)) is (picks.below (key_at k n) (key_at k p) e)

pub chosen_rows : (k : Numbering) → AreLoaded k → ChosenRows k
chosen_rows = of_loaded ChosenRows chosen_run

-- what a row answers
abbrev RowsAnswer : Numbering → Type 0
RowsAnswer k = (v : MethodRows) → AreBodies k v → (n : ℕ) (t : ℕ × ℕ) → HasRow v.rows n → IsToken k t → Descends (hierarchy k.classes) (key_at k n) (method_at k t).class
    → HasToken v.rows n t × ((b : ℕ) → Some b ≡ inherited v.rows n t → IsAnswer k v n t b)

answer_run : (cs : List Class) (ks : List ClassKey) → IsRun cs ks → RowsAnswer (numbered cs ks)
answer_run cs ks run v laid n t has is d = (
  has_token (scheme_of (numbered cs ks)) (scheme cs ks run) (body_of (numbered cs ks) v.bodies) v.rows laid.laid n t has is d,
  λ b e. let w = cell_answers (scheme_of (numbered cs ks)) (scheme cs ks run) (body_of (numbered cs ks) v.bodies) v.rows laid.laid n t has is d b e in by b w.0 w.1 (slice_get v.bodies b) refl w.2,
)
  where
    by : (b : ℕ) (y : ClassKey) → implementation (kernel ++ cs) (key_at (numbered cs ks) n) (method_at (numbered cs ks) t) ≡ Some y → (o : Option BodyAt) → slice_get v.bodies b ≡ o
        → option_map (seen (numbered cs ks)) o ≡ Some (y, t) → IsAnswer (numbered cs ks) v n t b
    by b y e None f g = absurd (cc)
    by b y e (Some x) f g =
        let two : ClassKey × (ℕ × ℕ) = (y, t) in
        let pair : seen (numbered cs ks) x ≡ two = same_Some (seen (numbered cs ks) x) two g in
        record { body = x; there = f; method = ap (λ (z : ClassKey × (ℕ × ℕ)). z.1) pair; class = e ∙ ap (λ z. Some z) (sym (ap (λ (z : ClassKey × (ℕ × ℕ)). z.0) pair)) }

pub rows_answer : (k : Numbering) → AreLoaded k → RowsAnswer k
rows_answer = of_loaded RowsAnswer answer_run

-- where no class has a row, the rows are right
pub none_filled : (k : Numbering) (rows : List (Option (Added ℕ))) → length rows ≡ length k.keys → ((n : ℕ) → row_at rows n ≡ None) → AreBodies k (rows_with rows [])
none_filled k rows each none = record {
  each = each;
  laid = none_laid (scheme_of k) (body_of k []) rows none;
  sourced = λ b x e. absurd (cc);
  tokens = λ n t has. absurd (none_is_not_some (row_at rows n) (none n) (HasToken_row rows n t has));
}
