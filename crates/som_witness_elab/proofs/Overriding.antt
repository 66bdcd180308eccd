-- W below C with an override of a method of C, or with none: its interface keeps the rules, and its class is that of its one body.
use Rattle.std.proofs.Common.{◌≡◌, ℕ, Bool, true, false, not, ◌==◌, ◌&&◌, ◌||◌, nat_le, if◌then◌else◌, List, [], ◌∷◌, ◌++◌, map, flat_map, length, Option, Some, None, Result, Ok, refl, sym, ap, ◌∙◌, subst}
use Rattle.std.specs.Prelude.{codes, option_map}
use Rattle.std.specs.Str.{bytes_eq}
use Rattle.som_model.specs.declared.key.Module.{Module}
use Rattle.som_model.specs.declared.key.Module.TheVariants as modules
use Rattle.som_model.specs.declared.key.ClassKey.{ClassKey}
use Rattle.som_model.specs.declared.key.ClassKey.TheVariants as keys
use Rattle.som_model.specs.declared.class.Override.{Override}
use Rattle.som_model.specs.declared.class.Select.{Select}
use Rattle.som_model.specs.declared.class.Sig.{Sig}
use Rattle.som_model.specs.declared.class.Variable.{Variable}
use Rattle.som_model.specs.declared.class.ClassDecl.{ClassDecl}
use Rattle.som_model.specs.declared.limits.TheConstants.{MAX_ENTRIES, MAX_OVERRIDES, MAX_PARENTS, MAX_SELECTS, MAX_VARIABLES}
use Rattle.som_model.specs.declared.program.Interface.{Interface}
use Rattle.som_model.specs.declared.syntax.Block.{Block}
use Rattle.som_model.specs.declared.syntax.Stmt.{Stmt}
use Rattle.som_model.specs.Lists.{Mem, among, first}
use Rattle.som_model.specs.Steps.{◌>>=◌}
use Rattle.som_model.specs.Class.{Class, class_in}
use Rattle.som_model.specs.Classes.{class_at, interface_classes}
use Rattle.som_model.specs.EffectiveOrder.{effective_order}
use Rattle.som_model.specs.Kernel.{kernel}
use Rattle.som_model.specs.Keys.{same_key}
use Rattle.som_model.specs.Owner.{introduces, owner, sig_of}
use Rattle.som_model.specs.Rules.{RuleBreach, breach, name_of, s8}
use Rattle.som_model.specs.Compatible.{release_of, signature}
use Rattle.som_model.proofs.KeyLaws.{exact_bytes, exact_numbers}
use Rattle.som_model_laws.proofs.Members.{mem_right}
use Rattle.som_model_laws.proofs.Standing.{found}
use Rattle.som_ast.specs.declared.body.BodyText.{BodyText}
use Rattle.som_ast.specs.declared.body.StmtText.{StmtText}
use Rattle.som_ast.specs.declared.interface.IdlInterface.{IdlInterface}
use Rattle.som_ast.specs.declared.interface.Item.{Item}
use Rattle.som_ast.specs.declared.interface.Modifier.TheVariants as modifiers
use Rattle.som_ast.specs.declared.words.Word.{Word}
use Rattle.som_verify_classes.specs.Plainly.{Differ}
use Rattle.som_verify_classes.proofs.Conformity.{none_or}
use Rattle.som_breach_laws.proofs.Moving.{Stands}
use Rattle.som_breach_laws.proofs.Pairs.{library_key}
use Rattle.som_sema_scope.specs.ClassNames.{key_of}
use Rattle.som_sema_scope.specs.Words.{once}
use Rattle.som_sema_drafts.specs.Demands.{text_breach, text_demand}
use Rattle.som_sema_drafts.specs.Drafts.{InterfaceDraft, draft_class, item_variables}
use Rattle.som_sema_drafts.specs.Items.{Given, chosen_by, given, is_select, major_in, metaclass_names, minor_in, number_of, replaced, selecting, with_modifier}
use Rattle.som_sema_decls.specs.Finished.{declare, entry_for, introducer, override_of, select_of}
use Rattle.som_sema_local.specs.OwnRules.{misplaced, nothing_said, second}
use Rattle.som_sema.specs.TextRules.{is_inherited, replaces_inherited, text_s10}
use Rattle.som_elab_methods.specs.Bodies.{bodies_breach, overridden_sig, stands_for, takes_as_many, text_s13, text_s14}
use Rattle.som_elab_methods.specs.Limits.{Passed, at_most, class_limits, limit_passed}
use Rattle.som_elab_body.specs.Expressions.{Among}
use Rattle.som_elab_body.specs.MethodBody.{elaborated_body}
use Rattle.som_elab_body.specs.Statements.{Told}
use Rattle.som_elab.specs.Blocks.{Refusal, elaborated_class, override_block, refused_at, text_block, with_blocks}
use Rattle.som_elab.specs.Elaboration.{elaborated_program}
use Rattle.som_witness.specs.Program.{one_class, plain_below, with_override}
use Rattle.som_witness.specs.Wording.{class_text}
use Rattle.som_witness.proofs.Fitting.{AreFine, adds_override, adds_plain}
use Rattle.som_witness.proofs.Holding.{Holds, program_holds}
use Rattle.som_witness_texts.specs.Trees.{body_tree, interface_with, override_of as override_item}
use Rattle.som_witness_elab.proofs.Below.{all_with, among_introduced, apart, introducer_here, sig_here, w_below}
use Rattle.som_witness_elab.proofs.Items.{AreVariables, overridden_by}
use Rattle.som_witness_elab.proofs.Names.{key_named, module_named}
use Rattle.som_witness_elab.proofs.Rules.{Asked}
use Rattle.som_witness_elab.proofs.Whole.{among_with, empty_main, whole}
use Rattle.som_witness_elab.proofs.WithG.{once_of, variables_known}

module _ (old : Interface) (so : Stands old) (holds : Holds old) (name : List ℕ) (free : (c : Class) → Mem c (release_of old) → name_of c ≡ name → ⊥) (c : Class) (m : Mem c (interface_classes old)) where
  abbrev O : List Class
  O = release_of old

  abbrev M : List ℕ → Module
  M = module_named old name

  abbrev K : ClassKey
  K = keys.Named modules.Library c.decl.face.name

  pub in_old : Mem c O
  in_old = mem_right c kernel (interface_classes old) m

  key_is : c.key ≡ K
  key_is = library_key old c m

  pub old_at : class_at O K ≡ Some c
  old_at = found (interface_classes old) so.load.ordered c K in_old key_is

  pub parent_is : key_of M (class_text K) ≡ c.key
  parent_is = key_named old so holds name free K c old_at ∙ sym key_is

  -- W's declaration by the class that it descends from
  abbrev below_by : List Variable → List Override → ClassDecl
  below_by vs os = w_below name c.key [] vs os

  unmoved : (x : List ℕ) (to : ClassKey) → ⊥ → ⊥
  unmoved x to z = z

  module _ (items : List Item) (vs : List Variable) (metaclass : metaclass_names items ≡ []) where
    abbrev i : IdlInterface
    i = interface_with name (class_text K) [] items

    abbrev drafted : ℕ → ℕ → ClassKey → List (List ℕ) → List Variable → ClassDecl
    drafted major minor parent meta vars = record {
      face = record { name = name; major = major; minor = minor; parents = parent ∷ []; metaclass = option_map (key_of M) (first meta); entries = [] };
      variables = vars;
      bodies = [];
      overrides = [];
      selects = [];
    }

    pub class_is : (major : number_of major_in items ≡ 0) (minor : number_of minor_in items ≡ 0) → flat_map (item_variables M) items ++ [] ≡ vs → draft_class M i ≡ below_by vs []
    class_is major minor variables =
        let parent = key_of M (class_text K) in
        let meta = metaclass_names items in
        let vars = flat_map (item_variables M) items ++ [] in
        ap (λ (z : ℕ). drafted z (number_of minor_in items) parent meta vars) major
        ∙ ap (λ (z : ℕ). drafted 0 z parent meta vars) minor
        ∙ ap (λ (z : ClassKey). drafted 0 0 z meta vars) parent_is
        ∙ ap (λ (z : List (List ℕ)). drafted 0 0 c.key z vars) metaclass
        ∙ ap (λ (z : List Variable). drafted 0 0 c.key [] z) variables

  -- ---- with no item

  plain_once : s8 (all_with old (below_by [] [])) (class_in modules.Client (below_by [] [])) ≡ []
  plain_once =
      subst (λ (k : ClassKey). s8 (all_with old (w_below name k [] [] [])) (class_in modules.Client (w_below name k [] [] [])) ≡ []) (sym key_is)
      (once_of old (plain_below name K) (program_holds old so holds (plain_below name K) (adds_plain old so holds name free c m)))

  plain_asked : Asked old so name free c in_old [] [] (class_text K) parent_is [] [] []
  plain_asked = record {
    class = class_is [] [] refl refl refl refl;
    metaclass = refl;
    types = refl;
    names = refl;
    variables = refl;
    declared = refl;
    once = plain_once;
    moved = refl;
    inherited = refl;
    modifiers = refl;
    words = refl;
  }

  abbrev plain : ClassDecl
  plain = below_by [] []

  -- the client that an interface without any member stands for
  pub made_plain : elaborated_program old (interface_with name (class_text K) [] [] ∷ []) [] empty_main ≡ Ok (one_class old (plain_below name K))
  made_plain =
      whole old so name free c in_old [] [] (class_text K) parent_is [] [] [] plain_asked [] plain refl refl refl
      ∙ ap (λ (k : ClassKey). Ok (one_class old (plain_below name k))) key_is

  -- ---- with an override

  module _ (x : List ℕ) (sig : Sig) (has : signature O K x ≡ Some sig) (intro : introduces O x K ≡ true)
      (vars : List Item) (vs : List Variable) (fine : AreFine O vs) (differ : Differ (λ (v : Variable). v.name) vs) (said : AreVariables M vars vs) where
    abbrev items : List Item
    items = override_item x ∷ vars

    abbrev j : IdlInterface
    j = interface_with name (class_text K) [] items

    abbrev o : Override
    o = record { method = record { class = c.key; name = x }; block = record { statements = [] } }

    abbrev d0 : InterfaceDraft
    d0 = record { text = j; class = below_by vs [] }

    abbrev w0 : Class
    w0 = class_in modules.Client (below_by vs [])

    abbrev A0 : List Class
    A0 = all_with old (below_by vs [])

    abbrev d : ClassDecl
    d = below_by vs (o ∷ [])

    abbrev d1 : InterfaceDraft
    d1 = record { text = j; class = d }

    abbrev w : Class
    w = class_in modules.Client d

    abbrev A : List Class
    A = all_with old d

    -- the one modifier
    abbrev overriding : Given
    overriding = record { method = x; modifier = modifiers.Override }

    given_is : given items ≡ overriding ∷ []
    given_is = ap (λ (z : List Given). overriding ∷ z) said.nothing_given

    introducer_is : introducer A0 w0.key x ≡ c.key
    introducer_is = introducer_here old so holds name c in_old [] unmoved vs [] x refl (among_introduced O K c x old_at intro)

    abbrev declared_by : List (List ℕ) → List Given → ClassDecl
    declared_by ls gs = record {
      face = record d0.class.face { entries = map (entry_for A0 w0.key []) (effective_order ls []) };
      variables = vs;
      bodies = [];
      overrides = map (override_of A0 w0.key) (overridden_by gs);
      selects = [];
    }

    declared_is : declare A0 modules.Client d0 ≡ d
    declared_is =
        ap (λ (z : List (List ℕ)). declared_by z (given items)) said.nothing_listed
        ∙ ap (λ (z : List Given). declared_by [] z) given_is
        ∙ ap (λ (k : ClassKey). below_by vs (record { method = record { class = k; name = x }; block = record { statements = [] } } ∷ [])) introducer_is

    no_select : among x (selecting items) ≡ false
    no_select = ap (λ (z : List Given). among x (once (with_modifier is_select z))) given_is

    inherited_here : text_s10 M A0 w0.key d0 ≡ []
    inherited_here =
        ap (λ (z : List Given). flat_map (replaces_inherited M A0 w0.key d0) z) given_is
        ∙ ap (λ (t : Bool). text_demand 10 d0 x (t || is_inherited A0 w0.key x) ++ []) no_select
        ∙ ap (λ (k : ClassKey). text_demand 10 d0 x (not (same_key k w0.key)) ++ []) introducer_is
        ∙ ap (λ (t : Bool). text_demand 10 d0 x (not t) ++ []) (apart old so holds name c in_old [] unmoved vs [])

    -- W with an empty override, by the class that it descends from
    abbrev overridden : ClassKey → ClassDecl
    overridden k = w_below name k [] vs (record { method = record { class = k; name = x }; block = record { statements = [] } } ∷ [])

    once_here : s8 A w ≡ []
    once_here =
        subst (λ (k : ClassKey). s8 (all_with old (overridden k)) (class_in modules.Client (overridden k)) ≡ []) (sym key_is)
        (once_of old (overridden K) (program_holds old so holds (overridden K) (adds_override old so holds name free c m x intro vs [] fine differ)))

    asked : Asked old so name free c in_old [] items (class_text K) parent_is [] vs (o ∷ [])
    asked = record {
      class = class_is items vs said.no_metaclass said.no_major said.no_minor said.are;
      metaclass = said.no_metaclass;
      types = variables_known old (below_by vs []) vs fine;
      names = ap (λ (z : List (List ℕ)). second 6 d0 z) said.nothing_listed;
      variables = ap (map (breach 7 w0)) said.differ;
      declared = declared_is;
      once = once_here;
      moved = refl;
      inherited = inherited_here;
      modifiers = ap (λ (z : List Given). map (text_breach 11 d0) (misplaced [] (replaced items) nothing_said z)) given_is;
      words = ap (λ (z : List (List ℕ)). second 12 d0 z) said.no_word;
    }

    -- ---- its body

    module _ (params : List Word) (texts : List StmtText) (as_many : length params ≡ length sig.params) (statements : List Stmt) where
      abbrev b : BodyText
      b = body_tree name x params texts

      abbrev a1 : Among
      a1 = among_with old name d

      abbrev texts_by : Bool → Bool → List BodyText
      texts_by t u = if t && u then b ∷ [] else []

      sig_is : sig_of A (owner A o.method) ≡ Some sig
      sig_is =
          ap (λ (k : ClassKey). sig_of A (owner A (record { class = k; name = x }))) key_is
          ∙ sig_here old so holds name c in_old [] unmoved vs (o ∷ []) K c x sig old_at has

      counted : (length params == length sig.params) ≡ true
      counted = ap (λ (n : ℕ). n == length sig.params) as_many ∙ exact_numbers.one (length sig.params)

      abbrev wrong : List RuleBreach
      wrong = record { rule = 13; class = name; member = x } ∷ []

      abbrev found_by : Bool → Option InterfaceDraft
      found_by t = if t then Some d1 else None

      thirteen : first (flat_map (text_s13 A (d1 ∷ [])) (b ∷ [])) ≡ None
      thirteen =
          ap (λ (t : Bool). first ((if stands_for A b (found_by t) then [] else wrong) ++ [])) (exact_bytes.one name)
          ∙ ap (λ (t : Bool). first ((if takes_as_many b (overridden_sig A (if t then Some o else None)) then [] else wrong) ++ [])) (exact_bytes.one x)
          ∙ ap (λ (q : Option Sig). first ((if takes_as_many b q then [] else wrong) ++ [])) sig_is
          ∙ ap (λ (t : Bool). first ((if t then [] else wrong) ++ [])) counted

      fourteen : first (flat_map (text_s14 (b ∷ [])) (d1 ∷ [])) ≡ None
      fourteen =
          ap (λ (t : Bool). first ((text_demand 14 d1 x (length (texts_by t (bytes_eq x x)) == 1) ++ []) ++ [])) (exact_bytes.one name)
          ∙ ap (λ (t : Bool). first ((text_demand 14 d1 x (length (texts_by true t) == 1) ++ []) ++ [])) (exact_bytes.one x)

      bodies_fit : bodies_breach A (d1 ∷ []) (b ∷ []) ≡ None
      bodies_fit = none_or (first (flat_map (text_s13 A (d1 ∷ [])) (b ∷ []))) (first (flat_map (text_s14 (b ∷ [])) (d1 ∷ []))) thirteen fourteen

      abbrev limits_by : List Given → Bool → List Passed
      limits_by gs t =
          at_most (codes "parents") MAX_PARENTS 1 ++ at_most (codes "entries") MAX_ENTRIES 0 ++ at_most (codes "overrides") MAX_OVERRIDES 1
          ++ at_most (codes "selects") MAX_SELECTS (length (flat_map chosen_by gs))
          ++ (if t then [] else record { quantity = codes "variables"; number = MAX_VARIABLES } ∷ [])
          ++ []

      few_of_all : class_limits d1 ≡ []
      few_of_all =
          ap (λ (gs : List Given). limits_by gs (nat_le (length vs) MAX_VARIABLES)) given_is
          ∙ ap (λ (t : Bool). limits_by (overriding ∷ []) t) said.few

      within : limit_passed (d1 ∷ []) ≡ None
      within = ap (λ (z : List Passed). first (z ++ [])) few_of_all

      abbrev with_block : Result Block Refusal → Result Override Refusal
      with_block r = r >>= λ block. Ok (record { method = o.method; block = block })

      abbrev selects_by : List Given → List Select
      selects_by gs = map (select_of A w.key (class_text K ∷ [])) (flat_map chosen_by gs)

      abbrev finished : Result Override Refusal → List Given → Result ClassDecl Refusal
      finished r gs = (r >>= λ p. Ok (p ∷ [])) >>= λ others. Ok (with_blocks d [] others (selects_by gs))

      class_made : elaborated_body a1 w sig b ≡ Ok (record { statements = statements }) → elaborated_class a1 modules.Client (b ∷ []) d1 ≡ Ok (with_override name (record { class = c.key; name = x }) vs statements)
      class_made e =
          ap (λ (q : Option Sig). finished (override_block a1 (b ∷ []) w o q) (given j.items)) sig_is
          ∙ ap (λ (t : Bool). finished (with_block (text_block a1 w x sig (texts_by t (bytes_eq x x)))) (given j.items)) (exact_bytes.one name)
          ∙ ap (λ (t : Bool). finished (with_block (text_block a1 w x sig (texts_by true t))) (given j.items)) (exact_bytes.one x)
          ∙ ap (λ (z : Told Block). finished (with_block (refused_at name x z)) (given j.items)) e
          ∙ ap (λ (z : List Given). finished (Ok (record { method = o.method; block = record { statements = statements } })) z) given_is

      -- the client that its texts stand for
      pub made_over : elaborated_body a1 w sig b ≡ Ok (record { statements = statements }) → elaborated_program old (j ∷ []) (b ∷ []) empty_main ≡ Ok (one_class old (with_override name (record { class = K; name = x }) vs statements))
      made_over e =
          whole old so name free c in_old [] items (class_text K) parent_is [] vs (o ∷ []) asked (b ∷ []) (with_override name (record { class = c.key; name = x }) vs statements) bodies_fit within (class_made e)
          ∙ ap (λ (k : ClassKey). Ok (one_class old (with_override name (record { class = k; name = x }) vs statements))) key_is
