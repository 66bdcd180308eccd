-- The bodies of a class of texts are what the texts say.
use Rattle.std.proofs.Common.{◌≡◌, ℕ, ◌==◌, inl, inr, Bool, true, false, if◌then◌else◌, List, [], ◌∷◌, ◌++◌, length, map, flat_map, Option, Some, None, is_some, Ok, Err, refl, sym, ap, ◌∙◌, subst, arith}
use Rattle.std.specs.Str.{bytes_eq}
use Rattle.std.proofs.lemmas.Bool.{eqb-true}
use Rattle.som_model.specs.declared.key.Module.{Module}
use Rattle.som_model.specs.declared.key.ValueType.{ValueType}
use Rattle.som_model.specs.declared.syntax.Block.{Block}
use Rattle.som_model.specs.declared.class.Body.{Body}
use Rattle.som_model.specs.declared.class.Body.TheVariants as bodies
use Rattle.som_model.specs.declared.class.ClassDecl.{ClassDecl}
use Rattle.som_model.specs.declared.class.Entry.{Entry}
use Rattle.som_model.specs.declared.class.Entry.TheVariants as entries
use Rattle.som_model.specs.declared.class.Override.{Override}
use Rattle.som_model.specs.declared.class.Sig.{Sig}
use Rattle.som_model.specs.declared.class.Variable.{Variable}
use Rattle.som_model.specs.declared.class.Way.{Way}
use Rattle.som_model.specs.declared.program.Interface.{Interface}
use Rattle.som_model.specs.Class.{Class, class_in, introduced, introduced_sig}
use Rattle.som_model.specs.Classes.{interface_classes}
use Rattle.som_model.specs.Lists.{Mem, doubles, first}
use Rattle.som_model.specs.Owner.{owner, sig_of}
use Rattle.som_model.specs.Steps.{◌>>=◌}
use Rattle.som_model.specs.Typing.{in_body}
use Rattle.som_model.proofs.StepLaws.{same_answer, went}
use Rattle.som_model_laws.proofs.Laws.{among_mem}
use Rattle.som_ast.specs.declared.words.TypeName.{TypeName}
use Rattle.som_ast.specs.declared.words.Word.{Word}
use Rattle.som_ast.specs.declared.interface.Export.TheVariants as exports
use Rattle.som_ast.specs.declared.interface.IdlInterface.{IdlInterface}
use Rattle.som_ast.specs.declared.body.BodyText.{BodyText}
use Rattle.som_verify_classes.specs.Plainly.{ClassesHold}
use Rattle.som_verify_classes.proofs.Before.{none_both}
use Rattle.som_verify_classes.proofs.Owners.{flat_none}
use Rattle.som_sema_scope.specs.ClassNames.{type_of}
use Rattle.som_sema_scope.specs.Words.{words}
use Rattle.som_sema_decls.specs.Known.{after_base}
use Rattle.som_sema.specs.Building.{declarations, module_over, texts_breach}
use Rattle.som_sema_drafts.specs.Drafts.{InterfaceDraft, draft_of, variables}
use Rattle.som_sema_drafts.specs.Items.{chosen, overridden}
use Rattle.som_sema_decls.specs.Finished.{override_of, selects_at}
use Rattle.som_sema.proofs.TextBases.{demanded_text}
use Rattle.som_sema.proofs.TextInherited.{overridden_says}
use Rattle.som_verify_classes.specs.Places.{with_kernel}
use Rattle.som_verify_classes.proofs.PlainLists.{mem_map}
use Rattle.som_elab_body.specs.Expressions.{Among}
use Rattle.som_elab_body.specs.Locals.{names_of}
use Rattle.som_elab_body.specs.MethodBody.{elaborated_body, parameters}
use Rattle.som_elab_body.specs.Statements.{Breaks, elaborated_block}
use Rattle.som_elab_methods.specs.Accessors.{Access, accessor_body, attribute_accessors, body_of, place_of}
use Rattle.som_elab.specs.Elaboration.{classes_over, drafts_over, among_over}
use Rattle.som_elab_methods.specs.Bodies.{entry_has_one, has_one, operations, text_s13, text_s14, texts_for}
use Rattle.som_elab.specs.Blocks.{elaborated_class, entry_bodies, entry_body, override_block, override_blocks, text_block, with_blocks}
use Rattle.som_elab.proofs.BodiesOfClasses.{kinds_are, refused_ok}
use Rattle.som_elab.proofs.Declared.{operation_there, own, variables_apart}
use Rattle.som_elab_methods.proofs.Fitting.{accessed, at_place, introduced_there, made, variable_made}
use Rattle.som_elab.proofs.Signatures.{as_many, body_signed, draft_there, is_for, operation_signed, override_has_sig}
use Rattle.som_elab_laws.specs.Keeping.{known_classes}
use Rattle.som_elab_laws.specs.Named.{HasMethod, HasVariable}
use Rattle.som_elab_laws.proofs.MethodLaws.{has_method, inherited_here, owner_own, selects_say}
use Rattle.som_elab_laws.specs.Bodies.{BodySays, EntriesSay, MethodSays, OverrideSays, OverridesSay, TextSays, a_getter, a_moved_entry, a_setter, an_introduced_entry, an_operation, no_entry, no_override, one_override}
use Rattle.som_elab_laws.specs.Modules.{ClassSays}
use Rattle.som_elab_laws.proofs.StatementLaws.{text_says}

-- parameters have the names of their words
names_are : (ws : List Word) (kinds : List ValueType) → length ws ≡ length kinds → names_of (parameters ws kinds) ≡ words ws
names_are [] [] e = refl
names_are [] (k ∷ kinds) e = absurd (omega (arith, e))
names_are (w ∷ ws) [] e = absurd (omega (arith, e))
names_are (w ∷ ws) (k ∷ kinds) e = ap (λ z. w.text ∷ z) (names_are ws kinds (omega (arith, e)))

module _ (a : Among) (bs : List BodyText) (c : Class) where
  body_says : (sig : Sig) (b : BodyText) (block : Block) → length b.params ≡ length sig.params → elaborated_body a c sig b ≡ Ok block → BodySays a c sig b block
  body_says sig b block long h = by (is_some (first (doubles bytes_eq [] (words b.params)))) h
    where
      by : (t : Bool) → (if t then Err (Breaks 15) else elaborated_block a (in_body c sig.result) b.block (parameters b.params sig.params)) ≡ Ok block → BodySays a c sig b block
      by true e = absurd (let z = e in cc)
      by false e = record {
        scope = parameters b.params sig.params;
        names = names_are b.params sig.params long;
        kinds = kinds_are b.params sig.params long;
        says = text_says a (in_body c sig.result) b.block (parameters b.params sig.params) block e;
      }

  -- the one text of a method says its block
  method_text : (name : List ℕ) (sig : Sig) (ts : List BodyText) → texts_for bs c.decl.face.name name ≡ ts → length ts ≡ 1
      → ((b : BodyText) (rest : List BodyText) → texts_for bs c.decl.face.name name ≡ b ∷ rest → length b.params ≡ length sig.params)
      → (block : Block) → text_block a c name sig ts ≡ Ok block → TextSays a bs c name sig block
  method_text name sig [] e one many block h = absurd (omega (arith, one))
  method_text name sig (b ∷ rest) e one many block h =
      let f = is_for bs c.decl.face.name name b rest e in
      record {
        text = b;
        there = f.there;
        of_class = f.class_is;
        of_method = f.name_is;
        says = body_says sig b block (many b rest e) (refused_ok c.decl.face.name name (elaborated_body a c sig b) block h);
      }

module _ (m : Module) (base : Interface) (is : List IdlInterface) (bs : List BodyText)
    (holds : ClassesHold (after_base m (interface_classes base) (declarations m base is)))
    (rules : texts_breach m base is ≡ None)
    (s13 : first (flat_map (text_s13 (classes_over m base is) (drafts_over m base is)) bs) ≡ None)
    (s14 : first (flat_map (text_s14 bs) (drafts_over m base is)) ≡ None)
    (i : IdlInterface) (there : Mem i is) where
  abbrev a : Among
  a = among_over m base is

  abbrev d : InterfaceDraft
  d = own m base is i

  abbrev c : Class
  c = class_in m d.class

  -- ---- S14

  s14_here : first (text_s14 bs d) ≡ None
  s14_here = flat_none (text_s14 bs) (drafts_over m base is) d s14 (draft_there m base is holds i there)

  counted : (name : List ℕ) → first (has_one bs d name) ≡ None → length (texts_for bs d.class.face.name name) ≡ 1
  counted name e = eqb-true (length (texts_for bs d.class.face.name name)) 1 (demanded_text 14 d name (length (texts_for bs d.class.face.name name) == 1) e)

  both_counted : (first (flat_map (entry_has_one bs d) (introduced d.class.face.entries)) ≡ None) × (first (flat_map (λ (o : Override). has_one bs d o.method.name) d.class.overrides) ≡ None)
  both_counted = none_both (flat_map (entry_has_one bs d) (introduced d.class.face.entries)) (flat_map (λ (o : Override). has_one bs d o.method.name) d.class.overrides) s14_here

  operation_counted : (name : List ℕ) (sig : Sig) (way : Way) → Mem (entries.Introduced name sig way) d.class.face.entries → body_of d name ≡ None → length (texts_for bs d.class.face.name name) ≡ 1
  operation_counted name sig way n none =
      let q = flat_none (entry_has_one bs d) (introduced d.class.face.entries) name both_counted.0 (introduced_there d.class.face.entries name sig way n) in
      counted name (subst (λ (t : Bool). first (if t then has_one bs d name else []) ≡ None) (operation_there m base is i name sig way n none) q)

  -- ---- accessors

  attribute_variable : (readonly : Bool) (kind : TypeName) (names : List Word) (w : Word) → Mem (exports.Attribute readonly kind names) (i.before ++ i.after) → Mem w names
      → HasVariable c w.text (place_of (map (λ (v : Variable). v.name) d.class.variables) w.text)
  attribute_variable readonly kind names w x n =
      let v : Variable = record { name = w.text; kind = type_of (module_over m base is) kind } in
      record {
        variable = v;
        there = at_place (variables (module_over m base is) i) v (variables_apart m base is rules i there) (variable_made (module_over m base is) i readonly kind names w x n);
        named = refl;
      }

  attribute_says : (readonly : Bool) (kind : TypeName) (names : List Word) (w : Word) → Mem (exports.Attribute readonly kind names) (i.before ++ i.after) → Mem w names
      → (x : Access) → Mem x (attribute_accessors readonly w.text) → (sig : Sig) → MethodSays a bs c i x.name sig (accessor_body d.class.variables x)
  attribute_says readonly kind names w e n x (inl is) sig =
      subst (λ (z : Access). MethodSays a bs c i z.name sig (accessor_body d.class.variables z)) (sym is)
      (a_getter readonly (record { kind = kind; names = names; word = w; export = e; there = n; named = refl }) (attribute_variable readonly kind names w e n))
  attribute_says true kind names w e n x (inr k) sig = absurd k
  attribute_says false kind names w e n x (inr (inl is)) sig =
      subst (λ (z : Access). MethodSays a bs c i z.name sig (accessor_body d.class.variables z)) (sym is)
      (a_setter (record { kind = kind; names = names; word = w; export = e; there = n; named = refl }) (attribute_variable false kind names w e n))
  attribute_says false kind names w e n x (inr (inr k)) sig = absurd k

  accessor_says : (name : List ℕ) (sig : Sig) (body : Body) → body_of d name ≡ Some body → MethodSays a bs c i name sig body
  accessor_says name sig body e =
      let x = accessed d name body e in
      let o = made i x.accessor x.there in
      subst (λ z. MethodSays a bs c i z sig body) (sym x.named)
      (subst (MethodSays a bs c i x.accessor.name sig) x.is (attribute_says o.readonly o.kind o.names o.word o.export o.named x.accessor o.is sig))

  -- ---- methods that the class introduces

  operation_says : (name : List ℕ) (sig : Sig) (way : Way) (body : Body) → Mem (entries.Introduced name sig way) d.class.face.entries → body_of d name ≡ None → entry_body a bs c name sig None ≡ Ok body
      → MethodSays a bs c i name sig body
  operation_says name sig way body n none h =
      let t = went (text_block a c name sig (texts_for bs d.class.face.name name)) (λ block. Ok (bodies.User block)) body h in
      let signed = operation_signed m base is holds i there name sig way n none in
      subst (MethodSays a bs c i name sig) (same_answer t.further)
      (an_operation ((among_mem name (operations i)).0 (operation_there m base is i name sig way n none))
      (method_text a bs c name sig (texts_for bs d.class.face.name name) refl (operation_counted name sig way n none)
      (as_many m base is holds bs s13 i there name sig signed) t.value t.first))

  method_says : (name : List ℕ) (sig : Sig) (way : Way) (body : Body) → Mem (entries.Introduced name sig way) d.class.face.entries → (o : Option Body) → body_of d name ≡ o → entry_body a bs c name sig o ≡ Ok body
      → MethodSays a bs c i name sig body
  method_says name sig way body n None e h = operation_says name sig way body n e h
  method_says name sig way body n (Some x) e h = accessor_says name sig body (e ∙ ap Some (same_answer h))

  entries_say : (es : List Entry) (all : List Body) → ((name : List ℕ) (sig : Sig) (way : Way) → Mem (entries.Introduced name sig way) es → Mem (entries.Introduced name sig way) d.class.face.entries)
      → entry_bodies a bs d c es ≡ Ok all → EntriesSay a bs c i es all
  entries_say [] all part h = subst (EntriesSay a bs c i []) (same_answer h) no_entry
  entries_say (entries.Moved name to ∷ es) all part h = a_moved_entry (entries_say es all (λ n s w k. part n s w (inr k)) h)
  entries_say (entries.Introduced name sig way ∷ es) all part h =
      let x = went (entry_body a bs c name sig (body_of d name)) (λ body. entry_bodies a bs d c es >>= λ more. Ok (body ∷ more)) all h in
      let y = went (entry_bodies a bs d c es) (λ more. Ok (x.value ∷ more)) all x.further in
      subst (EntriesSay a bs c i (entries.Introduced name sig way ∷ es)) (same_answer y.further)
      (an_introduced_entry (method_says name sig way x.value (part name sig way (inl refl)) (body_of d name) refl x.first) (entries_say es y.value (λ n s w k. part n s w (inr k)) y.first))

  -- ---- methods that it overrides

  abbrev known : List Class
  known = with_kernel (known_classes m base is)

  abbrev declared_override : List ℕ → Override
  declared_override name = override_of known c.key name

  override_there : (name : List ℕ) → Mem name (overridden i.items) → Mem (declared_override name) d.class.overrides
  override_there name n = mem_map declared_override name (overridden i.items) n

  override_says : (name : List ℕ) (p : Override) → Mem name (overridden i.items) → (ts : List BodyText) → texts_for bs d.class.face.name name ≡ ts → length ts ≡ 1
      → override_block a bs c (declared_override name) (sig_of a.classes (owner a.classes (declared_override name).method)) ≡ Ok p → OverrideSays a bs c name p
  override_says name p n [] e one h = absurd (omega (arith, one))
  override_says name p n (b ∷ rest) e one h =
      let o = declared_override name in
      let s = body_signed m base is holds bs s13 i there name b rest e in
      let signed = override_has_sig m base is holds i there o (override_there name n) s.0 s.1 in
      let k : override_block a bs c o (Some s.0) ≡ Ok p = ap (override_block a bs c o) (sym signed) ∙ h in
      let t = went (text_block a c name s.0 (texts_for bs d.class.face.name name)) (λ block. Ok (record { method = o.method; block = block })) p k in
      let has = has_method m base is holds rules i there name (overridden_says (module_over m base is) known c.key (draft_of (module_over m base is) i) (inherited_here m base is holds rules i there) name n) in
      let same : has.0 ≡ s.0 = one_sig (sym (ap introduced_sig has.2.entry) ∙ ap (sig_of a.classes) (sym (owner_own a.classes o.method has.0 has.1 has.2.entry)) ∙ signed) in
      subst (OverrideSays a bs c name) (same_answer t.further) (record {
        sig = s.0;
        way = has.1;
        method = subst (λ (z : Sig). HasMethod a.classes c.key name o.method z has.1) same has.2;
        text = method_text a bs c name s.0 (texts_for bs d.class.face.name name) refl (ap (λ (z : List BodyText). length z) e ∙ one)
            (as_many m base is holds bs s13 i there name s.0 s.1) t.value t.first;
      })
    where
      one_sig : {x y : Sig} → Some x ≡ Some y → x ≡ y
      one_sig e = let z = e in cc

  override_counted : (name : List ℕ) → Mem name (overridden i.items) → length (texts_for bs d.class.face.name name) ≡ 1
  override_counted name n = counted name (flat_none (λ (o : Override). has_one bs d o.method.name) d.class.overrides (declared_override name) both_counted.1 (override_there name n))

  overrides_say : (names : List (List ℕ)) (all : List Override) → ((name : List ℕ) → Mem name names → Mem name (overridden i.items)) → override_blocks a bs c (map declared_override names) ≡ Ok all
      → OverridesSay a bs c names all
  overrides_say [] all part h = subst (OverridesSay a bs c []) (same_answer h) no_override
  overrides_say (name ∷ names) all part h =
      let o = declared_override name in
      let x = went (override_block a bs c o (sig_of a.classes (owner a.classes o.method))) (λ p. override_blocks a bs c (map declared_override names) >>= λ more. Ok (p ∷ more)) all h in
      let y = went (override_blocks a bs c (map declared_override names)) (λ more. Ok (x.value ∷ more)) all x.further in
      let mine = part name (inl refl) in
      subst (OverridesSay a bs c (name ∷ names)) (same_answer y.further)
      (one_override (override_says name x.value mine (texts_for bs d.class.face.name name) refl (override_counted name mine) x.first) (overrides_say names y.value (λ p k. part p (inr k)) y.first))

  -- ---- the class

  pub class_says : (c2 : ClassDecl) → elaborated_class a m bs d ≡ Ok c2 → ClassSays a m bs d c2
  class_says c2 h =
      let x = went (entry_bodies a bs d c d.class.face.entries) (λ all. override_blocks a bs c d.class.overrides >>= λ others. Ok (with_blocks d.class all others (selects_at a.classes c.key d))) c2 h in
      let y = went (override_blocks a bs c d.class.overrides) (λ others. Ok (with_blocks d.class x.value others (selects_at a.classes c.key d))) c2 x.further in
      subst (ClassSays a m bs d) (same_answer y.further) (record {
        face = refl;
        variables = refl;
        bodies = entries_say d.class.face.entries x.value (λ name sig way k. k) x.first;
        overrides = overrides_say (overridden i.items) y.value (λ name k. k) y.first;
        selects = selects_say m base is holds rules i there (chosen i.items) (λ s k. k);
      })
