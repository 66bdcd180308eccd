-- The parameters of a method as its first locals.
use Rattle.std.proofs.Common.{◌≡◌, ℕ, ◌+◌, ◌<◌, ◌≤◌, ◌⊎◌, Bool, true, false, if◌then◌else◌, inl, inr, List, [], ◌∷◌, ◌++◌, length, drop, get_or, is_some, Some, Result, Err, refl, sym, ap, ◌∙◌, subst, append_assoc, arith}
use Rattle.std.specs.Str.{bytes_eq}
use Rattle.std.proofs.lemmas.List.{append-nil, at_drop_more, drop_all, length_push, map_push}
use Rattle.som_model.specs.declared.key.ValueType.{ValueType}
use Rattle.som_model.specs.declared.syntax.Block.{Block}
use Rattle.som_model.specs.declared.class.Sig.{Sig}
use Rattle.som_model.specs.declared.limits.TheConstants.{MAX_PARAMETERS}
use Rattle.som_model.specs.Lists.{among, doubles, first}
use Rattle.som_model.specs.Class.{Class}
use Rattle.som_model.specs.Typing.{in_body}
use Rattle.som_ast.specs.declared.words.Word.{Word}
use Rattle.som_ast.specs.declared.body.BodyText.{BodyText}
use Rattle.som_verify_forms.specs.Kinds.{IsType, type_at}
use Rattle.som_sema_scope.specs.Words.{words}
use Rattle.som_elab_body.specs.declared.local.Local.{Local}
use Rattle.som_elab_body.specs.Locals.{Named, Names}
use Rattle.som_elab_body.specs.Expressions.{Among}
use Rattle.som_elab_body.specs.Code.{AreLocals, named_at, names_at}
use Rattle.som_elab_body.specs.declared.fault.BodyFault.{BodyFault}
use Rattle.som_elab_body.specs.Statements.{Breaks, Told, elaborated_block}
use Rattle.som_elab_body.specs.MethodBody.{elaborated_body, parameters}
use Rattle.som_elab_body.specs.BlockCode.{Blocks}
use Rattle.som_elab_body.proofs.NamesInScope.{few_placed, one_local}

-- ---- the names of parameters

-- one word more
pub word_next : (ws : List Word) (i : ℕ) (w : Word) (before : List (List ℕ)) → i < length ws → w ≡ get_or ws i w
    → first (doubles bytes_eq before (words (drop i ws))) ≡ (if among w.text before then Some w.text else first (doubles bytes_eq (before ++ w.text ∷ []) (words (drop (i + 1) ws))))
word_next ws i w before lt is =
    at_drop_more (λ z. first (doubles bytes_eq before (words z))) ws i w lt
    ∙ ap (λ (z : Word). first (doubles bytes_eq before (words (z ∷ drop (i + 1) ws)))) (sym is)
    ∙ first_if (among w.text before) w.text (doubles bytes_eq before (words (drop (i + 1) ws))) (doubles bytes_eq (before ++ w.text ∷ []) (words (drop (i + 1) ws)))
  where
    first_if : (b : Bool) (x : List ℕ) (xs ys : List (List ℕ)) → first (if b then x ∷ xs else ys) ≡ (if b then Some x else first ys)
    first_if true x xs ys = refl
    first_if false x xs ys = refl

-- ---- one parameter after the other

-- these are the parameters so far, and the rest is to come
pub record ArePlaced (cs : List Class) (ws : List Word) (kinds : List ValueType) (i : ℕ) (ls : List Local) : Type 0 where
  pub names : names_at cs ls ++ parameters (drop i ws) (drop i kinds) ≡ parameters ws kinds
  pub locals : AreLocals cs ls
  pub long : length ls ≡ i

abbrev pub named_as : Word → ValueType → Named
named_as w kind = record { name = w.text; kind = kind }

-- a local with the name of a word and a type
pub named_like : (cs : List Class) (l : Local) (w : Word) (kind : ValueType) → l.name.now ≡ w.text → type_at cs l.kind ≡ kind → named_at cs l ≡ named_as w kind
named_like cs l w kind e f = ap (λ z. let n : Named = record { name = z; kind = type_at cs l.kind } in n) e ∙ ap (λ z. let n : Named = record { name = w.text; kind = z } in n) f

no_parameters : (ws : List Word) → parameters ws [] ≡ []
no_parameters [] = refl
no_parameters (w ∷ ws) = refl

module _ (cs : List Class) (ws : List Word) (kinds : List ValueType) where
  pub none_placed : ArePlaced cs ws kinds 0 []
  none_placed = record { names = refl; locals = record { types = λ l m. absurd m; few = omega arith }; long = refl }

  module _ (i : ℕ) (ls : List Local) (w : Word) (kind : ValueType) (within : i < length ws) (typed : i < length kinds) (is : w ≡ get_or ws i w) (of : kind ≡ get_or kinds i kind) (p : ArePlaced cs ws kinds i ls) where
    parameters_next : parameters (drop i ws) (drop i kinds) ≡ named_as w kind ∷ parameters (drop (i + 1) ws) (drop (i + 1) kinds)
    parameters_next =
        at_drop_more (λ z. parameters z (drop i kinds)) ws i w within
        ∙ at_drop_more (λ z. parameters (get_or ws i w ∷ drop (i + 1) ws) z) kinds i kind typed
        ∙ ap (λ z. named_as z (get_or kinds i kind) ∷ parameters (drop (i + 1) ws) (drop (i + 1) kinds)) (sym is)
        ∙ ap (λ z. named_as w z ∷ parameters (drop (i + 1) ws) (drop (i + 1) kinds)) (sym of)

    pub one_placed : (l : Local) → named_at cs l ≡ named_as w kind → IsType cs l.kind → length kinds ≤ MAX_PARAMETERS → ArePlaced cs ws kinds (i + 1) (ls ++ l ∷ [])
    one_placed l named type few = record {
      names =
          ap (λ z. z ++ parameters (drop (i + 1) ws) (drop (i + 1) kinds)) (map_push (named_at cs) ls l)
          ∙ append_assoc (names_at cs ls) (named_at cs l ∷ []) (parameters (drop (i + 1) ws) (drop (i + 1) kinds))
          ∙ ap (λ z. names_at cs ls ++ z ∷ parameters (drop (i + 1) ws) (drop (i + 1) kinds)) named
          ∙ ap (λ z. names_at cs ls ++ z) (sym parameters_next)
          ∙ p.names;
      locals = one_local cs ls l p.locals type (few_placed (length ls) i (length kinds) p.long typed few);
      long = length_push ls l ∙ ap (λ n. n + 1) p.long;
    }

  -- one of the lists has no more
  pub all_placed : (i : ℕ) (ls : List Local) → (length ws ≤ i) ⊎ (length kinds ≤ i) → ArePlaced cs ws kinds i ls → names_at cs ls ≡ parameters ws kinds
  all_placed i ls (inl le) p = sym (append-nil (names_at cs ls)) ∙ ap (λ z. names_at cs ls ++ parameters z (drop i kinds)) (sym (drop_all i ws le)) ∙ p.names
  all_placed i ls (inr le) p =
      sym (append-nil (names_at cs ls)) ∙ ap (λ z. names_at cs ls ++ z) (sym (ap (parameters (drop i ws)) (drop_all i kinds le) ∙ no_parameters (drop i ws))) ∙ p.names

-- ---- the block among them

module _ (a : Among) (c : Class) (sig : Sig) (b : BodyText) where
  abbrev body_by : Bool → Told Block
  body_by double = if double then Err (Breaks 15) else elaborated_block a (in_body c sig.result) b.block (parameters b.params sig.params)

  pub body_doubled : true ≡ is_some (first (doubles bytes_eq [] (words b.params))) → elaborated_body a c sig b ≡ Err (Breaks 15)
  body_doubled e = ap body_by (sym e)

  pub body_is : (scope : Names) (kind : ValueType) → false ≡ is_some (first (doubles bytes_eq [] (words b.params))) → scope ≡ parameters b.params sig.params → kind ≡ sig.result
      → elaborated_body a c sig b ≡ elaborated_block a (in_body c kind) b.block scope
  body_is scope kind e params same =
      ap body_by (sym e)
      ∙ ap (elaborated_block a (in_body c sig.result) b.block) (sym params)
      ∙ ap (λ z. elaborated_block a (in_body c z) b.block scope) (sym same)

  -- what is told of the block among these locals is told of the body
  pub body_told : (scope : Names) (kind : ValueType) (double : Bool) (ws : List Word) (kinds : List ValueType) (r : Result Block BodyFault) → double ≡ false → double ≡ is_some (first (doubles bytes_eq [] (words ws))) → ws ≡ b.params
      → scope ≡ parameters ws kinds → kinds ≡ sig.params → kind ≡ sig.result → Blocks (elaborated_block a (in_body c kind) b.block scope) r → Blocks (elaborated_body a c sig b) r
  body_told scope kind double ws kinds r none of same params typed answers t =
      subst (λ (z : Told Block). Blocks z r)
      (sym (body_is scope kind (sym none ∙ of ∙ ap (λ (z : List Word). is_some (first (doubles bytes_eq [] (words z)))) same)
      (params ∙ ap (λ (z : List Word). parameters z kinds) same ∙ ap (parameters b.params) typed) answers)) t
