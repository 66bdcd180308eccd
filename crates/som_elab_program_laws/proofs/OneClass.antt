-- The texts of a class that conform say one class.
use Rattle.std.proofs.Common.{◌≡◌, ℕ, inl, inr, Bool, true, false, List, [], ◌∷◌, ◌++◌, map, slice_get, Option, Some, None, Ok, refl, sym, ap, ◌∙◌, subst, arith}
use Rattle.std.specs.Prelude.{slice_index}
use Rattle.som_model.specs.declared.key.ClassKey.{ClassKey}
use Rattle.som_model.specs.declared.key.MethodRef.{MethodRef}
use Rattle.som_model.specs.declared.key.Module.{Module}
use Rattle.som_model.specs.declared.class.Body.{Body}
use Rattle.som_model.specs.declared.class.Body.TheVariants as bodies
use Rattle.som_model.specs.declared.class.ClassDecl.{ClassDecl}
use Rattle.som_model.specs.declared.class.ClassFace.{ClassFace}
use Rattle.som_model.specs.declared.class.Entry.{Entry}
use Rattle.som_model.specs.declared.class.Entry.TheVariants as entries
use Rattle.som_model.specs.declared.class.Override.{Override}
use Rattle.som_model.specs.declared.class.Select.{Select}
use Rattle.som_model.specs.declared.class.Sig.{Sig}
use Rattle.som_model.specs.declared.class.Variable.{Variable}
use Rattle.som_model.specs.declared.class.Way.{Way}
use Rattle.som_model.specs.declared.program.Interface.{Interface}
use Rattle.som_model.specs.declared.syntax.Block.{Block}
use Rattle.som_model.specs.Class.{Class, class_in, introduced, introduced_sig}
use Rattle.som_model.specs.Classes.{interface_classes}
use Rattle.som_model.specs.Lists.{Mem}
use Rattle.som_model.specs.Owner.{owner, sig_of}
use Rattle.som_model_laws.proofs.Members.{Apart}
use Rattle.som_ast.specs.declared.interface.IdlInterface.{IdlInterface}
use Rattle.som_ast.specs.declared.body.BodyText.{BodyText}
use Rattle.som_verify_classes.specs.Places.{with_kernel}
use Rattle.som_verify_classes.specs.Plainly.{ClassesHold, Differ}
use Rattle.som_verify_classes.proofs.PlainLists.{apart_differ, differ_apart, mem_map}
use Rattle.som_sema_drafts.specs.Drafts.{InterfaceDraft, draft_of, getter, introduces, setter, variables}
use Rattle.som_sema_drafts.specs.Items.{Chosen, chosen, overridden}
use Rattle.som_sema_decls.specs.Known.{after_base}
use Rattle.som_sema_decls.specs.Finished.{override_of}
use Rattle.som_sema.specs.Building.{declarations, module_over, texts_breach}
use Rattle.som_sema.proofs.TextInherited.{overridden_says}
use Rattle.som_elab_body.specs.Expressions.{Among, class_named}
use Rattle.som_elab_body.specs.MethodBody.{elaborated_body}
use Rattle.som_elab_methods.specs.Bodies.{operations}
use Rattle.som_elab.specs.Elaboration.{among_over, classes_over, drafts_over}
use Rattle.som_elab.proofs.Declared.{own, variables_apart}
use Rattle.som_elab.proofs.Signatures.{class_there, draft_there}
use Rattle.som_elab_laws.specs.Bodies.{EntriesSay, HasAttribute, MethodSays, OverrideSays, OverridesSay, SelectSays, SelectsSay, TextSays, a_getter, a_moved_entry, a_setter, an_introduced_entry, an_operation, no_entry, no_override, no_select, one_override, one_select}
use Rattle.som_elab_laws.specs.Conforming.{BlocksStand, BodiesStand, HasOneBody, IsOfMethod, by_operation, by_override}
use Rattle.som_elab_laws.specs.Keeping.{known_classes}
use Rattle.som_elab_laws.specs.Modules.{ClassSays}
use Rattle.som_elab_laws.specs.Named.{HasMethod, HasVariable}
use Rattle.som_elab_laws.proofs.MethodLaws.{has_method, inherited_here, owner_own}
use Rattle.som_sema_laws.specs.Faces.{DeclaredNames}
use Rattle.som_sema_laws.proofs.Declaring.{declared_names}
use Rattle.som_sema_laws.proofs.Texts.{names_differ}
use Rattle.som_elab_program_laws.proofs.NotBoth.{apart, no_accessor, of_reader, of_writer}
use Rattle.som_elab_program_laws.proofs.OneBody.{IsPlainClass, one_text}
use Rattle.som_elab_program_laws.proofs.OneName.{one_method, one_variable}

map_same : {A : Type 0} (xs : List A) → map (λ (x : A). x) xs ≡ xs
map_same [] = refl
map_same (x ∷ xs) = ap (λ z. x ∷ z) (map_same xs)

-- ---- names of accessors

one_reader : (x y : List ℕ) → getter x ≡ getter y → x ≡ y
one_reader x y e = let z = e in cc

one_writer : (x y : List ℕ) → setter x ≡ setter y → x ≡ y
one_writer x y e = let z = e in cc

different : (m n : ℕ) → m ≡ n → m ≡ 103 → n ≡ 115 → ⊥
different m n e f g = omega (arith, e, f, g)

not_reader : (x y : List ℕ) → getter x ≡ setter y → ⊥
not_reader x y e = different (slice_index (getter x) 1) (slice_index (setter y) 1) (ap (λ (z : List ℕ). slice_index z 1) e) refl refl

-- what the body of a method is, by its name
data IsBody (a : Among) (bs : List BodyText) (c : Class) (i : IdlInterface) (name : List ℕ) (sig : Sig) (b : Body) : Type 0 where
  reads : (readonly : Bool) (word : List ℕ) (n : ℕ) → name ≡ getter word → HasAttribute i readonly word → HasVariable c word n → b ≡ bodies.Get n → IsBody a bs c i name sig b
  writes : (word : List ℕ) (n : ℕ) → name ≡ setter word → HasAttribute i false word → HasVariable c word n → b ≡ bodies.Set n → IsBody a bs c i name sig b
  operates : (block : Block) → Mem name (operations i) → TextSays a bs c name sig block → b ≡ bodies.User block → IsBody a bs c i name sig b

is_body : (a : Among) (bs : List BodyText) (c : Class) (i : IdlInterface) (name : List ℕ) (sig : Sig) (b : Body) → MethodSays a bs c i name sig b → IsBody a bs c i name sig b
is_body a bs c i name sig b (a_getter {name = word} {n = n} readonly h v) = reads readonly word n refl h v refl
is_body a bs c i name sig b (a_setter {name = word} {n = n} h v) = writes word n refl h v refl
is_body a bs c i name sig b (an_operation {block = block} m t) = operates block m t refl

module _ (m : Module) (base : Interface) (is : List IdlInterface) (bs : List BodyText)
    (holds : ClassesHold (after_base m (interface_classes base) (declarations m base is)))
    (rules : texts_breach m base is ≡ None)
    (stand : BodiesStand (classes_over m base is) (drafts_over m base is) bs)
    (blocks : BlocksStand (among_over m base is) m (drafts_over m base is) bs)
    (i : IdlInterface) (there : Mem i is) where
  abbrev a : Among
  a = among_over m base is

  abbrev d : InterfaceDraft
  d = own m base is i

  abbrev c : Class
  c = class_in m d.class

  plain : IsPlainClass c
  plain = record {
    variables = apart_differ (λ (v : Variable). v.name) (variables (module_over m base is) i) (variables_apart m base is rules i there);
    parents = holds.parents.by c (class_there m base is holds i there);
  }

  abbrev declared_entries : List Entry
  declared_entries = introduces (module_over m base is) i

  names_apart : Apart (introduced declared_entries)
  names_apart =
      subst Apart (map_same (introduced declared_entries))
      (differ_apart (λ (name : List ℕ). name) (introduced declared_entries) (names_differ m base is i (introduced declared_entries) rules there (declared_names (module_over m base is) i)))

  -- ---- methods that it introduces

  not_reads : (name word : List ℕ) (readonly : Bool) → Mem name (operations i) → HasAttribute i readonly word → name ≡ getter word → ⊥
  not_reads name word readonly n h e = apart i (introduced declared_entries) (declared_names (module_over m base is) i) names_apart name n (of_reader i readonly word name h e)

  not_writes : (name word : List ℕ) → Mem name (operations i) → HasAttribute i false word → name ≡ setter word → ⊥
  not_writes name word n h e = apart i (introduced declared_entries) (declared_names (module_over m base is) i) names_apart name n (of_writer i word name h e)

  one_operation : (name : List ℕ) (sig : Sig) (way : Way) (x y : Block) → Mem (entries.Introduced name sig way) d.class.face.entries → Mem name (operations i) → TextSays a bs c name sig x → TextSays a bs c name sig y → x ≡ y
  one_operation name sig way x y e n s t =
      one_text a bs c plain d refl name sig x y (stand.once d name (Some sig) (draft_there m base is holds i there) (by_operation way n e))
      (λ b k of. blocks.introduced d name sig way b (draft_there m base is holds i there) e (no_accessor i (introduced declared_entries) (declared_names (module_over m base is) i) names_apart d refl name n) k of) s t

  one_by : (name : List ℕ) (sig : Sig) (way : Way) (x y : Body) → Mem (entries.Introduced name sig way) d.class.face.entries → IsBody a bs c i name sig x → IsBody a bs c i name sig y → x ≡ y
  one_by name sig way x y e (reads ro u n g h v s) (reads qo w k g2 h2 v2 t) =
      let word = one_reader u w (sym g ∙ g2) in
      s ∙ ap bodies.Get (one_variable c w n k plain.variables (subst (λ z. HasVariable c z n) word v) v2) ∙ sym t
  one_by name sig way x y e (reads ro u n g h v s) (writes w k g2 h2 v2 t) = absurd (not_reader u w (sym g ∙ g2))
  one_by name sig way x y e (reads ro u n g h v s) (operates block k text t) = absurd (not_reads name u ro k h g)
  one_by name sig way x y e (writes u n g h v s) (reads qo w k g2 h2 v2 t) = absurd (not_reader w u (sym g2 ∙ g))
  one_by name sig way x y e (writes u n g h v s) (writes w k g2 h2 v2 t) =
      let word = one_writer u w (sym g ∙ g2) in
      s ∙ ap bodies.Set (one_variable c w n k plain.variables (subst (λ z. HasVariable c z n) word v) v2) ∙ sym t
  one_by name sig way x y e (writes u n g h v s) (operates block k text t) = absurd (not_writes name u k h g)
  one_by name sig way x y e (operates block n text s) (reads qo w k g2 h2 v2 t) = absurd (not_reads name w qo n h2 g2)
  one_by name sig way x y e (operates block n text s) (writes w k g2 h2 v2 t) = absurd (not_writes name w n h2 g2)
  one_by name sig way x y e (operates block n text s) (operates other k text2 t) = s ∙ ap bodies.User (one_operation name sig way block other e n text text2) ∙ sym t

  one_entries : (es : List Entry) (xs ys : List Body) → ((name : List ℕ) (sig : Sig) (way : Way) → Mem (entries.Introduced name sig way) es → Mem (entries.Introduced name sig way) d.class.face.entries)
      → EntriesSay a bs c i es xs → EntriesSay a bs c i es ys → xs ≡ ys
  one_entries es xs ys part no_entry no_entry = refl
  one_entries es xs ys part (a_moved_entry {es = rest} {made = us} p) (a_moved_entry {made = vs} q) = one_entries rest us vs (λ name sig way k. part name sig way (inr k)) p q
  one_entries es xs ys part (an_introduced_entry {name = name} {sig = sig} {way = way} {es = rest} {b = u} {made = us} p ps) (an_introduced_entry {b = v} {made = vs} q qs) =
      let here = one_by name sig way u v (part name sig way (inl refl)) (is_body a bs c i name sig u p) (is_body a bs c i name sig v q) in
      ap (λ z. z ∷ us) here ∙ ap (λ z. v ∷ z) (one_entries rest us vs (λ n s w k. part n s w (inr k)) ps qs)

  -- ---- methods that it overrides

  abbrev known : List Class
  known = with_kernel (known_classes m base is)

  abbrev declared_override : List ℕ → Override
  declared_override name = override_of known c.key name

  one_override_of : (name : List ℕ) (x y : Override) → Mem name (overridden i.items) → OverrideSays a bs c name x → OverrideSays a bs c name y → x ≡ y
  one_override_of name x y n s t =
      let o = declared_override name in
      let mine : Mem o d.class.overrides = mem_map declared_override name (overridden i.items) n in
      let has = has_method m base is holds rules i there name (overridden_says (module_over m base is) known c.key (draft_of (module_over m base is) i) (inherited_here m base is holds rules i there) name n) in
      let methods = one_method a.classes c.key name x.method y.method s.sig t.sig s.way t.way s.method t.method in
      let mine_is = one_method a.classes c.key name o.method x.method has.0 s.sig has.1 s.way has.2 s.method in
      let signed : sig_of a.classes (owner a.classes o.method) ≡ Some s.sig =
      ap (sig_of a.classes) (owner_own a.classes o.method has.0 has.1 has.2.entry) ∙ ap introduced_sig has.2.entry ∙ ap (λ z. Some z) mine_is.sig in
      let one = stand.once d name (sig_of a.classes (owner a.classes o.method)) (draft_there m base is holds i there) (by_override o mine refl refl) in
      let block = one_text a bs c plain d refl name s.sig x.block y.block one (λ b k of. blocks.overridden d o s.sig b (draft_there m base is holds i there) mine signed k of) s.text
      (subst (λ (z : Sig). TextSays a bs c name z y.block) (sym methods.sig) t.text) in
      ap (λ (z : MethodRef). let r : Override = record x { method = z } in r) methods.method ∙ ap (λ (z : Block). let r : Override = record y { block = z } in r) block

  one_overrides : (names : List (List ℕ)) (xs ys : List Override) → ((name : List ℕ) → Mem name names → Mem name (overridden i.items)) → OverridesSay a bs c names xs → OverridesSay a bs c names ys → xs ≡ ys
  one_overrides names xs ys part no_override no_override = refl
  one_overrides names xs ys part (one_override {name = name} {o = u} {names = more} {os = us} p ps) (one_override {o = v} {os = vs} q qs) =
      ap (λ z. z ∷ us) (one_override_of name u v (part name (inl refl)) p q) ∙ ap (λ z. v ∷ z) (one_overrides more us vs (λ n k. part n (inr k)) ps qs)

  -- ---- what it selects

  one_select_of : (s : Chosen) (x y : Select) → SelectSays a c s x → SelectSays a c s y → x ≡ y
  one_select_of s x y p q =
      let methods = one_method a.classes c.key s.method x.method y.method p.sig q.sig p.way q.way p.method q.method in
      let places = plain.parents.by x.parent y.parent (class_named a s.parent) (class_named a s.parent) p.parent q.parent refl in
      ap (λ (z : MethodRef). let r : Select = record x { method = z } in r) methods.method ∙ ap (λ (z : ℕ). let r : Select = record y { parent = z } in r) places

  one_selects : (ss : List Chosen) (xs ys : List Select) → SelectsSay a c ss xs → SelectsSay a c ss ys → xs ≡ ys
  one_selects ss xs ys no_select no_select = refl
  one_selects ss xs ys (one_select {s = s} {made = u} {ss = more} {all = us} p ps) (one_select {made = v} {all = vs} q qs) =
      ap (λ z. z ∷ us) (one_select_of s u v p q) ∙ ap (λ z. v ∷ z) (one_selects more us vs ps qs)

  -- ---- the class

  pub one_class : (x y : ClassDecl) → ClassSays a m bs d x → ClassSays a m bs d y → x ≡ y
  one_class x y p q =
      let own_bodies = one_entries d.class.face.entries x.bodies y.bodies (λ name sig way k. k)
      (subst (λ (z : ClassFace). EntriesSay a bs c i z.entries x.bodies) p.face p.bodies) (subst (λ (z : ClassFace). EntriesSay a bs c i z.entries y.bodies) q.face q.bodies) in
      let others = one_overrides (overridden i.items) x.overrides y.overrides (λ name k. k) p.overrides q.overrides in
      let selected = one_selects (chosen i.items) x.selects y.selects p.selects q.selects in
      ap (λ (z : ClassFace). let r : ClassDecl = record x { face = z } in r) (p.face ∙ sym q.face)
      ∙ ap (λ (z : List Variable). let r : ClassDecl = record x { face = y.face; variables = z } in r) (p.variables ∙ sym q.variables)
      ∙ ap (λ (z : List Body). let r : ClassDecl = record y { bodies = z; overrides = x.overrides; selects = x.selects } in r) own_bodies
      ∙ ap (λ (z : List Override). let r : ClassDecl = record y { overrides = z; selects = x.selects } in r) others
      ∙ ap (λ (z : List Select). let r : ClassDecl = record y { selects = z } in r) selected
