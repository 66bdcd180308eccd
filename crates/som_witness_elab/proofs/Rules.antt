-- W's interface breaks none of the rules S1 to S12, by what each of them asks of W.
use Rattle.std.proofs.Common.{◌≡◌, ℕ, Bool, true, false, not, if◌then◌else◌, List, [], ◌∷◌, ◌++◌, map, flat_map, length, take, None, is_some, refl, sym, ap, ◌∙◌}
use Rattle.std.proofs.Math.Seq.{get_or-append_seam}
use Rattle.std.specs.Prelude.{codes}
use Rattle.som_model.specs.declared.key.Module.{Module}
use Rattle.som_model.specs.declared.key.Module.TheVariants as modules
use Rattle.som_model.specs.declared.key.ClassKey.{ClassKey}
use Rattle.som_model.specs.declared.class.Entry.{Entry}
use Rattle.som_model.specs.declared.class.Variable.{Variable}
use Rattle.som_model.specs.declared.class.Override.{Override}
use Rattle.som_model.specs.declared.class.ClassDecl.{ClassDecl}
use Rattle.som_model.specs.declared.program.Interface.{Interface}
use Rattle.som_model.specs.Lists.{Mem, among, first}
use Rattle.som_model.specs.Class.{Class, class_in}
use Rattle.som_model.specs.Classes.{class_at, interface_classes}
use Rattle.som_model.specs.Conforming.{each_after}
use Rattle.som_model.specs.Rules.{RuleBreach, breach, name_of, s1, s3, s5, s7, s8, s9}
use Rattle.som_model.specs.Compatible.{release_of}
use Rattle.som_model.proofs.ListLaws.{take_front}
use Rattle.som_model_laws.proofs.Laws.{among_mem}
use Rattle.som_model_laws.proofs.Lists.{map_mem}
use Rattle.som_model_laws.proofs.Members.{not_true}
use Rattle.som_model_laws.proofs.Standing.{found}
use Rattle.som_ast.specs.declared.interface.Export.{Export}
use Rattle.som_ast.specs.declared.interface.IdlInterface.{IdlInterface}
use Rattle.som_ast.specs.declared.interface.Item.{Item}
use Rattle.som_verify_classes.specs.Places.{key_at, nobody}
use Rattle.som_verify_classes.proofs.Conformity.{none_or}
use Rattle.som_sema_scope.specs.ClassNames.{key_of}
use Rattle.som_sema_drafts.specs.Drafts.{InterfaceDraft, draft_class}
use Rattle.som_sema_drafts.specs.Demands.{text_breach}
use Rattle.som_sema_drafts.specs.Items.{metaclass_names}
use Rattle.som_sema_decls.specs.Finished.{declare}
use Rattle.som_sema_local.specs.OwnRules.{text_s6, text_s11, text_s12}
use Rattle.som_sema.specs.TextRules.{base_stands, makes_classes, text_s2_from, text_s4, text_s10, text_s10_from}
use Rattle.som_sema.specs.Building.{declarations, declared_all, draft_breach, draft_rules_breach, finished_breach, texts_breach}
use Rattle.som_breach_laws.proofs.Moving.{Stands}
use Rattle.som_witness_texts.specs.Trees.{interface_with}
use Rattle.som_witness_elab.proofs.Below.{all_with, w_below}
use Rattle.som_witness_elab.proofs.Names.{module_named}

module _ (old : Interface) (so : Stands old) (name : List ℕ) (free : (c : Class) → Mem c (release_of old) → name_of c ≡ name → ⊥) (p : Class) (there : Mem p (release_of old))
    (before : List Export) (items : List Item) (parent : List ℕ) (parent_is : key_of (module_named old name) parent ≡ p.key) (es : List Entry) (vs : List Variable) (os : List Override) where
  abbrev olds : List Class
  olds = interface_classes old

  abbrev O : List Class
  O = release_of old

  abbrev M : List ℕ → Module
  M = module_named old name

  abbrev i : IdlInterface
  i = interface_with name parent before items

  -- by itself, and with what it overrides
  abbrev d0 : InterfaceDraft
  d0 = record { text = i; class = w_below name p.key es vs [] }

  abbrev w0 : Class
  w0 = class_in modules.Client (w_below name p.key es vs [])

  abbrev A0 : List Class
  A0 = all_with old (w_below name p.key es vs [])

  abbrev w1 : Class
  w1 = class_in modules.Client (w_below name p.key es vs os)

  abbrev A1 : List Class
  A1 = all_with old (w_below name p.key es vs os)

  -- W is the last
  pub last_key : key_at A0 (length O) ≡ w0.key
  last_key = ap (λ (c : Class). c.key) (get_or-append_seam O w0 [] nobody)

  name_new : among name (map name_of O) ≡ false
  name_new = not_true (among name (map name_of O)) (λ t. (let c = map_mem name_of name O ((among_mem name (map name_of O)).0 t) in free c.0 c.1 (sym c.2)))

  one : first (each_after s1 O (w0 ∷ [])) ≡ None
  one = ap (λ (b : Bool). first ((if not b then [] else breach 1 w0 (codes "-") ∷ []) ++ [])) name_new

  parent_stands : is_some (class_at (take (length O) A0) (key_of M parent)) ≡ true
  parent_stands =
      ap (λ (z : List Class). is_some (class_at z (key_of M parent))) (take_front O (w0 ∷ []))
      ∙ ap (λ (k : ClassKey). is_some (class_at O k)) parent_is
      ∙ ap is_some (found olds so.load.ordered p p.key there refl)

  -- what is still asked
  pub record Asked : Type 0 where
    pub class : draft_class M i ≡ w_below name p.key es vs []
    pub metaclass : metaclass_names items ≡ []
    pub types : s5 A0 w0 ≡ []
    pub names : text_s6 d0 ≡ []
    pub variables : s7 w0 ≡ []
    pub declared : declare A0 modules.Client d0 ≡ w_below name p.key es vs os
    pub once : s8 A1 w1 ≡ []
    pub moved : s9 A1 w1 ≡ []
    pub inherited : text_s10 M A0 w0.key d0 ≡ []
    pub modifiers : text_s11 d0 ≡ []
    pub words : text_s12 d0 ≡ []

  module _ (a : Asked) where
    two : first (text_s2_from M A0 (length O) (d0 ∷ [])) ≡ None
    two =
        ap (λ (z : List (List ℕ)). first (flat_map (base_stands M (take (length O) A0) d0) (parent ∷ z) ++ [])) a.metaclass
        ∙ ap (λ (b : Bool). first (((if b then [] else text_breach 2 d0 parent ∷ []) ++ []) ++ [])) parent_stands

    three : first (flat_map s3 (w0 ∷ [])) ≡ None
    three = refl

    four : first (flat_map (text_s4 M A0) (d0 ∷ [])) ≡ None
    four = ap (λ (z : List (List ℕ)). first (flat_map (makes_classes M A0 d0) z ++ [])) a.metaclass

    five : first (flat_map (s5 A0) (w0 ∷ [])) ≡ None
    five = ap (λ (z : List RuleBreach). first (z ++ [])) a.types

    six : first (flat_map text_s6 (d0 ∷ [])) ≡ None
    six = ap (λ (z : List RuleBreach). first (z ++ [])) a.names

    seven : first (flat_map s7 (w0 ∷ [])) ≡ None
    seven = ap (λ (z : List RuleBreach). first (z ++ [])) a.variables

    eight : first (flat_map (s8 A1) (w1 ∷ [])) ≡ None
    eight = ap (λ (z : List RuleBreach). first (z ++ [])) a.once

    nine : first (flat_map (s9 A1) (w1 ∷ [])) ≡ None
    nine = ap (λ (z : List RuleBreach). first (z ++ [])) a.moved

    ten : first (text_s10_from M A0 (length O) (d0 ∷ [])) ≡ None
    ten = ap (λ (k : ClassKey). first (text_s10 M A0 k d0 ++ [])) last_key ∙ ap (λ (z : List RuleBreach). first (z ++ [])) a.inherited

    eleven : first (flat_map text_s11 (d0 ∷ [])) ≡ None
    eleven = ap (λ (z : List RuleBreach). first (z ++ [])) a.modifiers

    twelve : first (flat_map text_s12 (d0 ∷ [])) ≡ None
    twelve = ap (λ (z : List RuleBreach). first (z ++ [])) a.words

    drafted : draft_breach M (olds ++ w0 ∷ []) olds (w0 ∷ []) (d0 ∷ []) ≡ None
    drafted = none_or _ _ one (none_or _ _ two (none_or _ _ three (none_or _ _ four (none_or _ _ five (none_or _ _ six seven)))))

    all_declared : declared_all modules.Client olds (d0 ∷ []) ≡ w_below name p.key es vs os ∷ []
    all_declared = ap (λ (z : ClassDecl). z ∷ []) a.declared

    finished : finished_breach M modules.Client olds (d0 ∷ []) (w_below name p.key es vs os ∷ []) ≡ None
    finished = none_or _ _ (none_or _ _ eight nine) (none_or _ _ ten (none_or _ _ eleven twelve))

    -- no rule is broken
    pub texts_kept : texts_breach modules.Client old (i ∷ []) ≡ None
    texts_kept =
        ap (λ (z : ClassDecl). draft_rules_breach M modules.Client olds (record { text = i; class = z } ∷ [])) a.class
        ∙ none_or _ _ drafted (ap (finished_breach M modules.Client olds (d0 ∷ [])) all_declared ∙ finished)

    -- and W is declared so
    pub declared_is : declarations modules.Client old (i ∷ []) ≡ w_below name p.key es vs os ∷ []
    declared_is = ap (λ (z : ClassDecl). declared_all modules.Client olds (record { text = i; class = z } ∷ [])) a.class ∙ all_declared
