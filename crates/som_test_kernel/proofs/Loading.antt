-- Classes that have nothing of their own can be loaded with an empty main.
use Rattle.std.proofs.Common.{◌≡◌, ◌≤◌, ℕ, inl, inr, Bool, true, false, if◌then◌else◌, List, [], ◌∷◌, ◌++◌, append-nil, append_assoc, length, take, Some, refl, sym, ap, ◌∙◌, subst, arith, true≢false}
use Rattle.std.proofs.lemmas.List.{map-append}
use Rattle.std.proofs.lemmas.Option.{none-some}
use Rattle.som_model.specs.declared.key.ClassKey.{ClassKey}
use Rattle.som_model.specs.declared.key.Module.{Module}
use Rattle.som_model.specs.declared.key.Module.TheVariants as modules
use Rattle.som_model.specs.declared.class.Entry.{Entry}
use Rattle.som_model.specs.declared.class.Entry.TheVariants as entries
use Rattle.som_model.specs.declared.limits.TheConstants.{MAX_LAID_CLASSES, MAX_TEXT}
use Rattle.som_model.specs.declared.syntax.Stmt.{Stmt}
use Rattle.som_model.specs.declared.syntax.Block.{fold-roll-Block}
use Rattle.som_model.specs.Lists.{Mem, doubles, some}
use Rattle.som_model.specs.Keys.{same_key}
use Rattle.som_model.specs.Class.{Class}
use Rattle.som_model.specs.Conforming.{class_typed_by, main_breach}
use Rattle.som_model.specs.Counts.{ClassCounted, block_counted_step, stmt_counted_step}
use Rattle.som_model.specs.Kernel.{kernel}
use Rattle.som_model.specs.Loads.{HasOwnKey, Loads, keys_of}
use Rattle.som_model.specs.Rules.{s3, s4, s5, s6, s7, s10, s14}
use Rattle.som_model.specs.Typing.{in_main, running_facts}
use Rattle.som_model.specs.TypedBlocks.{Scoped}
use Rattle.som_model.proofs.TypingLaws.{block_typed}
use Rattle.som_model_laws.proofs.Lists.{get_mem}
use Rattle.som_model_laws.proofs.Members.{mem_split}
use Rattle.som_class_ids.specs.declared.keyed.Keyed.{Keyed}
use Rattle.som_class_ids.specs.Classes.{class_of, classes_of}
use Rattle.som_class_ids.proofs.Declaring.{classes_length}
use Rattle.som_test_kernel.specs.Plain.{ArePlain, IsPlain, is_outside, plain}

not_kernel : (m : Module) → is_outside m ≡ true → m ≡ modules.Kernel → ⊥
not_kernel m o e = true≢false (sym o ∙ ap is_outside e)

-- ---- one class more

split : (b : Bool) (y : ClassKey) (us vs : List ClassKey) → (if b then y ∷ us else vs) ≡ [] → (b ≡ false) × (vs ≡ [])
split true y us vs e = absurd (cc)
split false y us vs e = (refl, e)

doubles_more : (before xs : List ClassKey) (x : ClassKey) → doubles same_key before xs ≡ [] → some (same_key x) (before ++ xs) ≡ false → doubles same_key before (xs ++ x ∷ []) ≡ []
doubles_more before [] x e f = (let g : some (same_key x) before ≡ false = ap (some (same_key x)) (sym (append-nil before)) ∙ f in rw g refl)
doubles_more before (y ∷ ys) x e f =
    let r = split (some (same_key y) before) y (doubles same_key before ys) (doubles same_key (before ++ y ∷ []) ys) e in
    ap (λ (b : Bool). if b then y ∷ doubles same_key before (ys ++ x ∷ []) else doubles same_key (before ++ y ∷ []) (ys ++ x ∷ [])) r.0
    ∙ doubles_more (before ++ y ∷ []) ys x r.1 (ap (some (same_key x)) (append_assoc before (y ∷ []) ys) ∙ f)

keys_some : (x : ClassKey) (all : List Keyed) → some (λ (c : Keyed). same_key x c.key) all ≡ some (same_key x) (keys_of (classes_of all))
keys_some x [] = refl
keys_some x (c ∷ all) = ap (λ (b : Bool). if same_key x c.key then true else b) (keys_some x all)

pub plain_more : (all : List Keyed) (x : Keyed) (home : Module) (name : List ℕ) (major minor : ℕ) → ArePlain (classes_of all) → is_outside home ≡ true → length name ≤ MAX_TEXT
    → class_of x ≡ plain home name major minor → false ≡ some (λ (c : Keyed). same_key x.key c.key) all → ArePlain (classes_of (all ++ x ∷ []))
plain_more all x home name major minor p outside short is new =
    subst ArePlain (sym (map-append class_of all (x ∷ []))) (record {
      all = λ c m. elim (mem_split c (classes_of all) (class_of x ∷ []) m) [ inl i ↦ p.all c i | inr i ↦ elim i [ inl e ↦ subst IsPlain (sym e) one | inr n ↦ absurd n ] ];
      differ = subst (λ (ks : List ClassKey). doubles same_key [] ks ≡ []) (sym (map-append (λ (c : Class). c.key) (classes_of all) (class_of x ∷ [])))
          (doubles_more [] (keys_of (classes_of all)) x.key p.differ (sym (keys_some x.key all) ∙ sym new));
    })
  where
    one : IsPlain (class_of x)
    one = record { home = home; name = name; major = major; minor = minor; outside = outside; short = short; is = is }

pub none_plain : ArePlain []
none_plain = record { all = λ c m. absurd m; differ = refl }

-- ---- all of them are loaded

module _ (cs : List Class) (p : ArePlain cs) where
  -- what holds of a class that has nothing of its own holds of each
  each : (P : Class → Type 0) → ((home : Module) (name : List ℕ) (major minor : ℕ) → is_outside home ≡ true → length name ≤ MAX_TEXT → P (plain home name major minor)) → (c : Class) → Mem c cs → P c
  each P f c m = (let i = p.all c m in subst P (sym i.is) (f i.home i.name i.major i.minor i.outside i.short))

  no_entry : (c : Class) → Mem c cs → (e : Entry) → Mem e c.decl.face.entries → ⊥
  no_entry = each (λ c. (e : Entry) → Mem e c.decl.face.entries → ⊥) (λ home name major minor o s e m. m)

  no_metaclass : (c : Class) → Mem c cs → (k : ClassKey) → c.decl.face.metaclass ≡ Some k → ⊥
  no_metaclass = each (λ c. (k : ClassKey) → c.decl.face.metaclass ≡ Some k → ⊥) (λ home name major minor o s k e. none-some k e)

  parent_there : (before : List Class) (c : Class) → Mem c cs → (k : ClassKey) → Mem k c.decl.face.parents → Mem k (keys_of (kernel ++ before))
  parent_there before = each (λ c. (k : ClassKey) → Mem k c.decl.face.parents → Mem k (keys_of (kernel ++ before))) (λ home name major minor o s k m. elim m [ inl e ↦ inl e | inr n ↦ absurd n ])

  counted : (c : Class) → Mem c cs → ClassCounted c.decl
  counted = each (λ c. ClassCounted c.decl) (λ home name major minor o s. record {
    face = record { name = s; some_parent = omega arith; parents = omega arith; order = omega arith; names = λ e m. absurd m; params = λ n sig way m. absurd m };
    variables = omega arith;
    names = refl;
    user = refl;
    overrides = omega arith;
    blocks = refl;
    selects = omega arith;
  })

  pub loads : length cs ≤ MAX_LAID_CLASSES → Loads cs (record { statements = [] })
  loads few = record {
    few = few;
    counted = counted;
    main_counted = fold-roll-Block Bool Bool stmt_counted_step block_counted_step (record { statements = [] });
    faces = record {
      ordered = record {
        own = each HasOwnKey (λ home name major minor o s. record { module_ = home; outside = not_kernel home o; is = refl });
        differ = p.differ;
        parents = λ i c k at m. parent_there (take i cs) c (get_mem cs i c at) k m;
        metaclasses = λ i c k at e. absurd (no_metaclass c (get_mem cs i c at) k e);
        targets = λ i c name to at m. absurd (no_entry c (get_mem cs i c at) (entries.Moved name to) m);
      };
      parents = each (λ c. s3 c ≡ []) (λ home name major minor o s. refl);
      descend = each (λ c. s4 (kernel ++ cs) c ≡ []) (λ home name major minor o s. refl);
      types = each (λ c. s5 (kernel ++ cs) c ≡ []) (λ home name major minor o s. refl);
      names = each (λ c. s6 c ≡ []) (λ home name major minor o s. refl);
      variables = each (λ c. s7 c ≡ []) (λ home name major minor o s. refl);
      above = λ c name to m e. absurd (no_entry c m (entries.Moved name to) e);
      there = λ c name to m e. absurd (no_entry c m (entries.Moved name to) e);
    };
    inherited = each (λ c. s10 (kernel ++ cs) c ≡ []) (λ home name major minor o s. refl);
    bodies = each (λ c. s14 c ≡ []) (λ home name major minor o s. refl);
    typed = each (λ c. class_typed_by (running_facts (kernel ++ cs)) (kernel ++ cs) c ≡ []) (λ home name major minor o s. refl);
    main_typed = ap (λ (f : Scoped). main_breach (f [])) (block_typed (running_facts (kernel ++ cs)) in_main []);
  }

pub loads_empty : (all : List Keyed) (statements : List Stmt) → ArePlain (classes_of all) → length all ≤ MAX_LAID_CLASSES → statements ≡ [] → Loads (classes_of all) (record { statements = statements })
loads_empty all statements p few none = subst (λ (ss : List Stmt). Loads (classes_of all) (record { statements = ss })) (sym none) (loads (classes_of all) p (let same = classes_length all in omega (arith, few, same)))
