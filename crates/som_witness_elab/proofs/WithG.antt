-- W below SOMObject with the method g: its interface keeps the rules, and its class is that of its one body.
use Rattle.std.proofs.Common.{◌≡◌, ℕ, inl, Bool, true, ◌==◌, ◌&&◌, nat_le, if◌then◌else◌, List, [], ◌∷◌, ◌++◌, map, flat_map, length, Option, Some, None, Result, Ok, refl, sym, ap, ◌∙◌}
use Rattle.std.specs.Prelude.{codes, option_map}
use Rattle.std.specs.Str.{bytes_eq}
use Rattle.std.proofs.lemmas.List.{map-append}
use Rattle.som_model.specs.declared.key.Module.{Module}
use Rattle.som_model.specs.declared.key.Module.TheVariants as modules
use Rattle.som_model.specs.declared.key.ClassKey.{ClassKey}
use Rattle.som_model.specs.declared.key.ValueType.{ValueType}
use Rattle.som_model.specs.declared.class.Body.{Body}
use Rattle.som_model.specs.declared.class.Body.TheVariants as bodies
use Rattle.som_model.specs.declared.class.Entry.{Entry}
use Rattle.som_model.specs.declared.class.Entry.TheVariants as entries
use Rattle.som_model.specs.declared.class.Select.{Select}
use Rattle.som_model.specs.declared.class.Sig.{Sig}
use Rattle.som_model.specs.declared.class.Variable.{Variable}
use Rattle.som_model.specs.declared.class.Way.TheVariants as ways
use Rattle.som_model.specs.declared.class.ClassDecl.{ClassDecl}
use Rattle.som_model.specs.declared.limits.TheConstants.{MAX_ENTRIES, MAX_OVERRIDES, MAX_PARAMETERS, MAX_PARENTS, MAX_SELECTS, MAX_VARIABLES}
use Rattle.som_model.specs.declared.program.Interface.{Interface}
use Rattle.som_model.specs.declared.syntax.Block.{Block}
use Rattle.som_model.specs.declared.syntax.Stmt.{Stmt}
use Rattle.som_model.specs.Lists.{Mem, doubles, first, or_else}
use Rattle.som_model.specs.Steps.{◌>>=◌}
use Rattle.som_model.specs.Class.{Class, bare, class_in}
use Rattle.som_model.specs.Classes.{ancestors, interface_classes}
use Rattle.som_model.specs.EffectiveOrder.{effective_order}
use Rattle.som_model.specs.Kernel.{kernel, object_face, som_object}
use Rattle.som_model.specs.Owner.{introduced_by}
use Rattle.som_model.specs.Rules.{breach, demand_of, is_value_type, name_of, s5, s6, s7, s8, s9, s10, s14}
use Rattle.som_model.specs.Compatible.{release_of}
use Rattle.som_model.specs.Conforming.{declared_program_breach, first_of_members, first_of_names}
use Rattle.som_model.proofs.KeyLaws.{exact_bytes}
use Rattle.som_model_laws.proofs.Members.{mem_right}
use Rattle.som_model_laws.proofs.Standing.{found}
use Rattle.som_ast.specs.declared.body.BodyText.{BodyText}
use Rattle.som_ast.specs.declared.body.StmtText.{StmtText}
use Rattle.som_ast.specs.declared.interface.IdlInterface.{IdlInterface}
use Rattle.som_ast.specs.declared.interface.Item.{Item}
use Rattle.som_ast.specs.declared.interface.Param.{Param}
use Rattle.som_ast.specs.declared.words.TypeName.{TypeName}
use Rattle.som_ast.specs.declared.words.Word.{Word}
use Rattle.som_verify_classes.specs.Plainly.{Differ}
use Rattle.som_verify_classes.proofs.Conformity.{none_or, or_none}
use Rattle.som_verify_classes.proofs.FacesOnly.{ancestors_faces, face_only, introduced_faces}
use Rattle.som_release_laws.proofs.Lists.{flat_all}
use Rattle.som_breach_laws.proofs.Lists.{flat_none, map_none}
use Rattle.som_breach_laws.proofs.Moving.{Stands}
use Rattle.som_sema_scope.specs.ClassNames.{key_of, result_of}
use Rattle.som_sema_scope.specs.Words.{once}
use Rattle.som_sema_drafts.specs.Demands.{text_breach, text_demand}
use Rattle.som_sema_drafts.specs.Drafts.{InterfaceDraft, draft_class, item_variables, method, param_types}
use Rattle.som_sema_drafts.specs.Items.{Given, chosen_by, given, is_by_name, metaclass_names, minor_in, number_of, replaced, with_modifier}
use Rattle.som_sema_decls.specs.Finished.{declare, entry_for, override_of, select_of}
use Rattle.som_sema_local.specs.OwnRules.{misplaced, nothing_said, second}
use Rattle.som_sema.specs.TextRules.{replaces_inherited}
use Rattle.som_elab_methods.specs.Bodies.{bodies_breach, stands_for, text_s13, text_s14}
use Rattle.som_elab_methods.specs.Limits.{Passed, at_most, class_limits, limit_passed}
use Rattle.som_elab_body.specs.Expressions.{Among}
use Rattle.som_elab_body.specs.MethodBody.{elaborated_body}
use Rattle.som_elab_body.specs.Statements.{Told}
use Rattle.som_elab.specs.Blocks.{Refusal, elaborated_class, refused_at, text_block, with_blocks}
use Rattle.som_elab.specs.Elaboration.{elaborated_program}
use Rattle.som_witness.specs.Program.{one_class, with_g}
use Rattle.som_witness.proofs.Fitting.{AreFine, adds_g}
use Rattle.som_witness.proofs.Holding.{Holds, program_holds}
use Rattle.som_witness.proofs.Known.{sig_known, sig_left, value_left}
use Rattle.som_witness_texts.specs.Trees.{body_tree, interface_g, operation_g}
use Rattle.som_witness_elab.proofs.Below.{all_with, w_below}
use Rattle.som_witness_elab.proofs.Items.{AreVariables, overridden_by}
use Rattle.som_witness_elab.proofs.Names.{key_named, module_named, text_named}
use Rattle.som_witness_elab.proofs.Rules.{Asked}
use Rattle.som_witness_elab.proofs.Whole.{among_with, empty_main, whole}

-- no name is introduced twice above a class of a program that breaks no rule
pub once_of : (old : Interface) (d : ClassDecl) → declared_program_breach (one_class old d) ≡ None → s8 (all_with old d) (class_in modules.Client d) ≡ []
once_of old d e =
    let base = interface_classes old in
    let own = class_in modules.Client d ∷ [] in
    let cs = base ++ own in
    let types = first (flat_map (s5 (kernel ++ base)) base ++ flat_map (s5 (kernel ++ cs)) own) in
    let later = or_else (first (flat_map (s9 (kernel ++ cs)) cs)) (first (flat_map (s10 (kernel ++ cs)) cs)) in
    let eight = first (flat_map (s8 (kernel ++ cs)) cs) in
    let a = or_none (first_of_names kernel cs) (or_else types (or_else (first_of_members kernel cs) (first (flat_map s14 own)))) e in
    let b = or_none types (or_else (first_of_members kernel cs) (first (flat_map s14 own))) a.1 in
    let c = or_none (first_of_members kernel cs) (first (flat_map s14 own)) b.1 in
    let f = or_none (first (flat_map s6 cs)) (or_else (first (flat_map s7 cs)) (or_else eight later)) c.0 in
    let g = or_none (first (flat_map s7 cs)) (or_else eight later) f.1 in
    let h = or_none eight later g.1 in
    flat_none (s8 (kernel ++ cs)) cs h.0 (class_in modules.Client d) (mem_right (class_in modules.Client d) base own (inl refl))

flat_on : {A B : Type 0} (f g : A → List B) (xs : List A) → ((x : A) → f x ≡ g x) → flat_map f xs ≡ flat_map g xs
flat_on f g [] e = refl
flat_on f g (x ∷ xs) e = ap (λ z. z ++ flat_map f xs) (e x) ∙ ap (λ z. g x ++ z) (flat_on f g xs e)

-- the same of another class with the same face
pub once_other : (old : Interface) (d e : ClassDecl) → d.face ≡ e.face → s8 (all_with old e) (class_in modules.Client e) ≡ [] → s8 (all_with old d) (class_in modules.Client d) ≡ []
once_other old d e same none =
    let w = class_in modules.Client d in
    let v = class_in modules.Client e in
    let A = all_with old d in
    let B = all_with old e in
    let one : face_only w ≡ face_only v = ap (λ f. face_only (class_in modules.Client (bare f))) same in
    let faces : map face_only A ≡ map face_only B =
    ap (λ z. map face_only kernel ++ z) (map-append face_only (interface_classes old) (w ∷ []) ∙ ap (λ z. map face_only (interface_classes old) ++ z ∷ []) one ∙ sym (map-append face_only (interface_classes old) (v ∷ []))) in
    let above : ancestors A w.key ≡ ancestors B v.key = sym (ancestors_faces A w.key) ∙ ap (λ z. ancestors z w.key) faces ∙ ancestors_faces B w.key ∙ ap (λ f. ancestors B (class_in modules.Client (bare f)).key) same in
    let by : (k : ClassKey) → introduced_by A k ≡ introduced_by B k = λ k. sym (introduced_faces A k) ∙ ap (λ z. introduced_by z k) faces ∙ introduced_faces B k in
    ap (λ z. map (breach 8 w) (doubles bytes_eq [] z))
    (ap (flat_map (introduced_by A)) above ∙ flat_on (introduced_by A) (introduced_by B) (ancestors B v.key) by)
    ∙ ap (map (breach 8 w)) (map_none (breach 8 v) (doubles bytes_eq [] (flat_map (introduced_by B) (ancestors B v.key))) none)

-- SOMObject, as the old interface has it
abbrev pub object : Class
object = class_in modules.Kernel (bare object_face)

pub object_there : (old : Interface) → Mem object (release_of old)
object_there old = inl refl

pub object_named : (old : Interface) (so : Stands old) (holds : Holds old) (name : List ℕ) (free : (c : Class) → Mem c (release_of old) → name_of c ≡ name → ⊥) → key_of (module_named old name) (codes "SOMObject") ≡ som_object
object_named old so holds name free =
    ap (key_of (module_named old name)) (sym (text_named modules.Kernel (codes "SOMObject")))
    ∙ key_named old so holds name free som_object object (found (interface_classes old) so.load.ordered object som_object (object_there old) refl)

-- variables of known types break nothing of S5
pub variables_known : (old : Interface) (d : ClassDecl) (vs : List Variable) → AreFine (release_of old) vs
    → flat_map (λ (v : Variable). demand_of 5 (class_in modules.Client d) v.name (is_value_type (all_with old d) v.kind)) vs ≡ []
variables_known old d vs fine = flat_all (λ (v : Variable). demand_of 5 (class_in modules.Client d) v.name (is_value_type (all_with old d) v.kind)) vs
    (λ v m. ap (λ (b : Bool). demand_of 5 (class_in modules.Client d) v.name b) (value_left (release_of old) (class_in modules.Client d ∷ []) v.kind (fine v m)))

module _ (old : Interface) (so : Stands old) (holds : Holds old) (name : List ℕ) (free : (c : Class) → Mem c (release_of old) → name_of c ≡ name → ⊥)
    (result : Option TypeName) (ps : List Param) (sig : Sig) (result_is : result_of (module_named old name) result ≡ sig.result) (params_are : param_types (module_named old name) ps ≡ sig.params)
    (sig_fine : sig_known (release_of old) sig ≡ true) (few : nat_le (length sig.params) MAX_PARAMETERS ≡ true)
    (items : List Item) (vs : List Variable) (fine : AreFine (release_of old) vs) (differ : Differ (λ (v : Variable). v.name) vs) (said : AreVariables (module_named old name) items vs) where
  abbrev M : List ℕ → Module
  M = module_named old name

  abbrev i : IdlInterface
  i = interface_g name result ps items

  abbrev es : List Entry
  es = entries.Introduced (codes "g") sig ways.Offset ∷ []

  abbrev d : ClassDecl
  d = w_below name som_object es vs []

  abbrev w : Class
  w = class_in modules.Client d

  abbrev A : List Class
  A = all_with old d

  abbrev d1 : InterfaceDraft
  d1 = record { text = i; class = d }

  -- ---- its interface

  abbrev drafted : ℕ → ℕ → ClassKey → List (List ℕ) → List Given → ValueType → List ValueType → List Variable → ClassDecl
  drafted major minor parent metaclass gs answer params vars = record {
    face = record {
      name = name;
      major = major;
      minor = minor;
      parents = parent ∷ [];
      metaclass = option_map (key_of M) (first metaclass);
      entries = method (once (with_modifier is_by_name gs)) (codes "g") answer params ∷ [];
    };
    variables = vars;
    bodies = [];
    overrides = [];
    selects = [];
  }

  class_is : draft_class M i ≡ d
  class_is =
      let minor = number_of minor_in items in
      let parent = key_of M (codes "SOMObject") in
      let metaclass = metaclass_names items in
      let gs = given items in
      let answer = result_of M result in
      let params = param_types M ps in
      let vars = flat_map (item_variables M) items ++ [] in
      ap (λ (z : ℕ). drafted z minor parent metaclass gs answer params vars) said.no_major
      ∙ ap (λ (z : ℕ). drafted 0 z parent metaclass gs answer params vars) said.no_minor
      ∙ ap (λ (z : ClassKey). drafted 0 0 z metaclass gs answer params vars) (object_named old so holds name free)
      ∙ ap (λ (z : List (List ℕ)). drafted 0 0 som_object z gs answer params vars) said.no_metaclass
      ∙ ap (λ (z : List Given). drafted 0 0 som_object [] z answer params vars) said.nothing_given
      ∙ ap (λ (z : ValueType). drafted 0 0 som_object [] [] z params vars) result_is
      ∙ ap (λ (z : List ValueType). drafted 0 0 som_object [] [] sig.result z vars) params_are
      ∙ ap (λ (z : List Variable). drafted 0 0 som_object [] [] sig.result sig.params z) said.are

  types_known : s5 A w ≡ []
  types_known =
      ap (λ (b : Bool). (demand_of 5 w (codes "g") b ++ []) ++ flat_map (λ (v : Variable). demand_of 5 w v.name (is_value_type A v.kind)) vs) (sig_left (release_of old) (w ∷ []) sig sig_fine)
      ∙ variables_known old d vs fine

  abbrev declared_by : List (List ℕ) → List Given → ClassDecl
  declared_by ls gs = record {
    face = record d.face { entries = map (entry_for A w.key es) (effective_order ls (codes "g" ∷ [])) };
    variables = vs;
    bodies = [];
    overrides = map (override_of A w.key) (overridden_by gs);
    selects = [];
  }

  declared_is : declare A modules.Client d1 ≡ d
  declared_is = ap (λ (z : List (List ℕ)). declared_by z (given items)) said.nothing_listed ∙ ap (λ (z : List Given). declared_by [] z) said.nothing_given

  asked : Asked old so name free object (object_there old) (operation_g result ps ∷ []) items (codes "SOMObject") (object_named old so holds name free) es vs []
  asked = record {
    class = class_is;
    metaclass = said.no_metaclass;
    types = types_known;
    names = ap (λ (z : List (List ℕ)). second 6 d1 (codes "g" ∷ []) ++ second 6 d1 z) said.nothing_listed;
    variables = ap (map (breach 7 w)) said.differ;
    declared = declared_is;
    once = once_other old d (with_g name sig vs []) refl (once_of old (with_g name sig vs []) (program_holds old so holds (with_g name sig vs []) (adds_g old so holds name free sig sig_fine vs [] fine differ)));
    moved = refl;
    inherited = ap (λ (z : List Given). flat_map (replaces_inherited M A w.key d1) z) said.nothing_given;
    modifiers = ap (λ (z : List Given). map (text_breach 11 d1) (misplaced (once (codes "g" ∷ [])) (replaced items) nothing_said z)) said.nothing_given;
    words = ap (λ (z : List (List ℕ)). second 12 d1 z) said.no_word;
  }

  -- ---- its body

  module _ (params : List Word) (texts : List StmtText) (as_many : (length params == length sig.params) ≡ true) (statements : List Stmt) where
    abbrev b : BodyText
    b = body_tree name (codes "g") params texts

    abbrev a1 : Among
    a1 = among_with old name d

    abbrev named : InterfaceDraft → Bool → Option InterfaceDraft
    named x t = if t then Some x else None

    abbrev texts_by : Bool → List BodyText
    texts_by t = if t && bytes_eq (codes "g") (codes "g") then b ∷ [] else []

    thirteen : first (flat_map (text_s13 A (d1 ∷ [])) (b ∷ [])) ≡ None
    thirteen =
        ap (λ (t : Bool). first ((if stands_for A b (named d1 t) then [] else record { rule = 13; class = name; member = codes "g" } ∷ []) ++ [])) (exact_bytes.one name)
        ∙ ap (λ (t : Bool). first ((if t then [] else record { rule = 13; class = name; member = codes "g" } ∷ []) ++ [])) as_many

    fourteen : first (flat_map (text_s14 (b ∷ [])) (d1 ∷ [])) ≡ None
    fourteen = ap (λ (t : Bool). first (((text_demand 14 d1 (codes "g") (length (texts_by t) == 1) ++ []) ++ []) ++ [])) (exact_bytes.one name)

    bodies_fit : bodies_breach A (d1 ∷ []) (b ∷ []) ≡ None
    bodies_fit = none_or (first (flat_map (text_s13 A (d1 ∷ [])) (b ∷ []))) (first (flat_map (text_s14 (b ∷ [])) (d1 ∷ []))) thirteen fourteen

    abbrev limits_by : List Given → Bool → Bool → List Passed
    limits_by gs t u =
        at_most (codes "parents") MAX_PARENTS 1 ++ at_most (codes "entries") MAX_ENTRIES 1 ++ at_most (codes "overrides") MAX_OVERRIDES 0
        ++ at_most (codes "selects") MAX_SELECTS (length (flat_map chosen_by gs))
        ++ (if t then [] else record { quantity = codes "variables"; number = MAX_VARIABLES } ∷ [])
        ++ ((if u then [] else record { quantity = codes "parameters"; number = MAX_PARAMETERS } ∷ []) ++ [])

    few_of_all : class_limits d1 ≡ []
    few_of_all =
        ap (λ (gs : List Given). limits_by gs (nat_le (length vs) MAX_VARIABLES) (nat_le (length sig.params) MAX_PARAMETERS)) said.nothing_given
        ∙ ap (λ (t : Bool). limits_by [] t (nat_le (length sig.params) MAX_PARAMETERS)) said.few
        ∙ ap (λ (t : Bool). limits_by [] true t) few

    within : limit_passed (d1 ∷ []) ≡ None
    within = ap (λ z. first (z ++ [])) few_of_all

    abbrev with_body : Result Body Refusal → Result (List Body) Refusal
    with_body r = r >>= λ body. Ok (body ∷ [])

    abbrev as_user : Result Block Refusal → Result Body Refusal
    as_user r = r >>= λ block. Ok (bodies.User block)

    abbrev selects_by : List Given → List Select
    selects_by gs = map (select_of A w.key (codes "SOMObject" ∷ [])) (flat_map chosen_by gs)

    abbrev finished : Result (List Body) Refusal → List Given → Result ClassDecl Refusal
    finished own gs = own >>= λ own. Ok (with_blocks d own [] (selects_by gs))

    class_made : elaborated_body a1 w sig b ≡ Ok (record { statements = statements }) → elaborated_class a1 modules.Client (b ∷ []) d1 ≡ Ok (with_g name sig vs statements)
    class_made e =
        ap (λ (t : Bool). finished (with_body (as_user (text_block a1 w (codes "g") sig (texts_by t)))) (given items)) (exact_bytes.one name)
        ∙ ap (λ (z : Told Block). finished (with_body (as_user (refused_at name (codes "g") z))) (given items)) e
        ∙ ap (λ (z : List Given). finished (Ok (bodies.User (record { statements = statements }) ∷ [])) z) said.nothing_given

    -- the client that its texts stand for
    pub made_with_g : elaborated_body a1 w sig b ≡ Ok (record { statements = statements }) → elaborated_program old (i ∷ []) (b ∷ []) empty_main ≡ Ok (one_class old (with_g name sig vs statements))
    made_with_g e = whole old so name free object (object_there old) (operation_g result ps ∷ []) items (codes "SOMObject") (object_named old so holds name free) es vs [] asked (b ∷ []) (with_g name sig vs statements)
        bodies_fit within (class_made e)
