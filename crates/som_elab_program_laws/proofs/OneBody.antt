-- The text of a method says one body.
use Rattle.std.proofs.Common.{◌≡◌, ℕ, suc, inl, inr, Bool, true, false, if◌then◌else◌, List, [], ◌∷◌, ◌++◌, map, slice_get, Option, Some, None, is_some, Ok, Err, refl, sym, ap, ◌∙◌, subst}
use Rattle.std.specs.Str.{bytes_eq}
use Rattle.som_model.specs.declared.key.ClassKey.{ClassKey}
use Rattle.som_model.specs.declared.key.ValueType.{ValueType}
use Rattle.som_model.specs.declared.class.Sig.{Sig}
use Rattle.som_model.specs.declared.class.Variable.{Variable}
use Rattle.som_model.specs.declared.syntax.Block.{Block}
use Rattle.som_model.specs.Class.{Class}
use Rattle.som_model.specs.Lists.{Mem, doubles, first}
use Rattle.som_model.specs.Typing.{in_body, in_main}
use Rattle.som_model.proofs.KeyLaws.{exact_bytes}
use Rattle.som_model_laws.proofs.Lists.{mem_get}
use Rattle.som_model_laws.proofs.Members.{Apart}
use Rattle.som_ast.specs.declared.words.Word.{Word}
use Rattle.som_ast.specs.declared.body.BlockText.{BlockText}
use Rattle.som_ast.specs.declared.body.BodyText.{BodyText}
use Rattle.som_verify_classes.specs.Plainly.{Differ}
use Rattle.som_verify_classes.proofs.PlainLists.{apart_by, apart_differ}
use Rattle.som_sema_scope.specs.Words.{words}
use Rattle.som_sema_drafts.specs.Drafts.{InterfaceDraft}
use Rattle.som_elab_body.specs.Expressions.{Among}
use Rattle.som_elab_body.specs.Locals.{Named, Names, kinds_of, names_of}
use Rattle.som_elab_body.specs.MethodBody.{elaborated_body, parameters}
use Rattle.som_elab_body.specs.Statements.{Breaks, elaborated_block}
use Rattle.som_elab_laws.specs.Bodies.{BodySays, TextSays}
use Rattle.som_elab_laws.specs.Conforming.{HasOneBody, IsOfMethod}
use Rattle.som_elab_laws.specs.Statements.{BlockSays}
use Rattle.som_elab_program_laws.specs.NothingTwice.{NothingTwice}
use Rattle.som_elab_program_laws.proofs.OneBlock.{one_block}

-- ---- the names that are first in scope

scope_is : (scope : Names) (ws : List Word) (kinds : List ValueType) → names_of scope ≡ words ws → kinds_of scope ≡ kinds → scope ≡ parameters ws kinds
scope_is [] [] kinds e f = refl
scope_is [] (w ∷ ws) kinds e f = absurd (cc)
scope_is (n ∷ scope) [] kinds e f = absurd (cc)
scope_is (n ∷ scope) (w ∷ ws) [] e f = absurd (cc)
scope_is (n ∷ scope) (w ∷ ws) (kind ∷ kinds) e f =
    let name : n.name ≡ w.text = (let z = e in cc) in
    let more : names_of scope ≡ words ws = (let z = e in cc) in
    let here : n.kind ≡ kind = (let z = f in cc) in
    let others : kinds_of scope ≡ kinds = (let z = f in cc) in
    ap (λ (z : List ℕ). let x : Named = record n { name = z } in x ∷ scope) name
    ∙ ap (λ (z : ValueType). let x : Named = record { name = w.text; kind = z } in x ∷ scope) here
    ∙ ap (λ (z : Names). let x : Named = record { name = w.text; kind = kind } in x ∷ z) (scope_is scope ws kinds more others)

-- a class in whose bodies nothing stands twice but locals
pub record IsPlainClass (c : Class) : Type 0 where
  pub variables : Differ (λ (v : Variable). v.name) c.decl.variables
  pub parents : Differ (λ (k : ClassKey). k) c.decl.face.parents

some_one : {A : Type 0} {x y : A} → Some x ≡ Some y → x ≡ y
some_one e = let z = e in cc

body_once : (c : Class) (result : ValueType) (scope : Names) → IsPlainClass c → Apart (names_of scope) → NothingTwice (in_body c result) scope
body_once c result scope plain apart = record {
  locals = apart_differ (λ (n : Named). n.name) scope apart;
  variables = λ d e. subst (λ (z : Class). Differ (λ (v : Variable). v.name) z.decl.variables) (some_one e) plain.variables;
  parents = λ d e. subst (λ (z : Class). Differ (λ (k : ClassKey). k) z.decl.face.parents) (some_one e) plain.parents;
}

none_first : {A : Type 0} (xs : List A) → is_some (first xs) ≡ false → xs ≡ []
none_first [] e = refl
none_first (x ∷ xs) e = absurd (let z = e in cc)

-- a block that the text of a body says is the one that it stands for
pub one_body : (a : Among) (c : Class) → IsPlainClass c → (sig : Sig) (b : BodyText) (x y : Block) → elaborated_body a c sig b ≡ Ok x → BodySays a c sig b y → y ≡ x
one_body a c plain sig b x y h s = by (is_some (first (doubles bytes_eq [] (words b.params)))) refl h
  where
    by : (t : Bool) → is_some (first (doubles bytes_eq [] (words b.params))) ≡ t → (if t then Err (Breaks 15) else elaborated_block a (in_body c sig.result) b.block (parameters b.params sig.params)) ≡ Ok x → y ≡ x
    by true t e = absurd (let z = e in cc)
    by false t e =
        let apart : Apart (words b.params) = apart_by bytes_eq exact_bytes (words b.params) (none_first (doubles bytes_eq [] (words b.params)) t) in
        let once = body_once c sig.result s.scope plain (subst Apart (sym s.names) apart) in
        let is = scope_is s.scope b.params sig.params s.names s.kinds in
        one_block a (in_body c sig.result) b.block s.scope once x (subst (λ (z : Names). elaborated_block a (in_body c sig.result) b.block z ≡ Ok x) (sym is) e) y s.says

-- main has no names in scope and no class
pub one_main : (a : Among) (main : BlockText) (x y : Block) → elaborated_block a in_main main [] ≡ Ok x → BlockSays a in_main [] main y → y ≡ x
one_main a main x y h s =
    one_block a in_main main [] (record {
      locals = apart_differ (λ (n : Named). n.name) [] tt;
      variables = λ c e. absurd (let z = e in cc);
      parents = λ c e. absurd (let z = e in cc);
    }) x h y s

-- the text of a method that has one
pub one_text : (a : Among) (bs : List BodyText) (c : Class) → IsPlainClass c → (d : InterfaceDraft) → c.decl.face.name ≡ d.class.face.name → (name : List ℕ) (sig : Sig) (x y : Block) → HasOneBody bs d name
    → ((b : BodyText) → Mem b bs → IsOfMethod d name b → (block : Block) × (elaborated_body a c sig b ≡ Ok block)) → TextSays a bs c name sig x → TextSays a bs c name sig y → x ≡ y
one_text a bs c plain d is name sig x y one each s t =
    let u : IsOfMethod d name s.text = record { of_class = s.of_class ∙ is; of_method = s.of_method } in
    let v : IsOfMethod d name t.text = record { of_class = t.of_class ∙ is; of_method = t.of_method } in
    let m = mem_get bs s.text s.there in
    let n = mem_get bs t.text t.there in
    let same : s.text ≡ t.text = some_one (sym m.1 ∙ ap (slice_get bs) (one.once m.0 n.0 s.text t.text m.1 n.1 u v) ∙ n.1) in
    let made = each t.text t.there v in
    one_body a c plain sig t.text made.0 x made.1 (subst (λ (z : BodyText). BodySays a c sig z x) same s.says) ∙ sym (one_body a c plain sig t.text made.0 y made.1 t.says)
