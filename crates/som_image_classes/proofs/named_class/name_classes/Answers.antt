use Rattle.std.proofs.Common.{◌≡◌, ℕ, ◌+◌, ◌<◌, List, [], ◌∷◌, ◌++◌, length, get_or, sym, ap, ◌∙◌, arith}
use Rattle.std.proofs.lemmas.List.{length-append}
use Rattle.std.proofs.lemmas.Iterator.Adapters.{YieldsList-from_vec}
use Rattle.std.proofs.lemmas.Iterator.Consumers.{YieldsList-turn}
use Rattle.som_model.specs.declared.class.ClassDecl.{ClassDecl}
use Rattle.som_image_fields.specs.declared.face.WireFace.{WireFace}
use Rattle.som_image_fields.specs.declared.selects.WireSelect.{WireSelect}
use Rattle.som_image_fields.specs.declared.selects.WireSelects.{WireSelects}
use Rattle.som_image_decode.specs.declared.directory.Directory.{Directory}
use Rattle.som_image_classes.specs.declared.named_part.NamedPart.{NamedPart}
use Rattle.som_image_classes.specs.NamedClasses.{class_of, classes_of, selects_under, selecting, with_selects}
use Rattle.som_image_classes.proofs.ClassPlaces.{none_of, classes_more, classes_length, selecting_more}
use Rattle.som_image_classes.proofs.named_class.name_classes.Goals as goal

-- a class more
one_more : (d : Directory) (n : ℕ) (groups : List WireSelects) (fs : List WireFace) (ps : List NamedPart) (i : ℕ) (f : WireFace) (p : NamedPart) (own : List WireSelect) (named : List ClassDecl) → length ps < length fs → i ≡ length ps
    → f ≡ get_or fs i f → own ≡ selects_under (n + i) groups → named ≡ with_selects d n groups (classes_of d fs ps)
    → named ++ selecting d own (class_of d f p) ∷ [] ≡ with_selects d n groups (classes_of d fs (ps ++ p ∷ []))
one_more d n groups fs ps i f p own named lt many is_f is_own so_far =
    let front : List ClassDecl = classes_of d fs ps in
    let len : length front ≡ i = classes_length d fs ps (omega (arith, lt)) ∙ sym many in
    let face : f ≡ get_or fs (length ps) f = is_f ∙ ap (λ (k : ℕ). get_or fs k f) many in
    ap (λ (l : List ClassDecl). l ++ selecting d own (class_of d f p) ∷ []) so_far
    ∙ ap (λ (x : List WireSelect). with_selects d n groups front ++ selecting d x (class_of d f p) ∷ []) (is_own ∙ ap (λ (k : ℕ). selects_under (n + k) groups) (sym len))
    ∙ sym (selecting_more d n groups front (class_of d f p))
    ∙ ap (λ (x : WireFace). with_selects d n groups (front ++ class_of d x p ∷ [])) face
    ∙ ap (with_selects d n groups) (sym (classes_more d fs ps f p lt))

as_long : (cs : List ClassDecl) (ps : List NamedPart) (c : ClassDecl) (p : NamedPart) → length cs ≡ length ps → length (cs ++ c ∷ []) ≡ length (ps ++ p ∷ [])
as_long cs ps c p e = omega (arith, e, length-append cs (c ∷ []), length-append ps (p ∷ []))

pub loop-part-init : goal.loop-part-init
loop-part-init c = record {
  so_far = c.new-named.ensures ∙ ap (with_selects c.args.directory.now c.args.first c.args.selects.now) (sym (none_of c.args.directory.now c.as_slice-faces.result.now));
  many = ap (length {A = ClassDecl}) c.new-named.ensures;
}

pub loop-part-preserved : goal.loop-part-preserved
loop-part-preserved c =
    let all = YieldsList-from_vec c.into_vec-part-items.result.items c.into_iter-part-iterator.ensures.into_iter_gives.0 (c.into_iter-part-iterator.ensures.into_iter_gives.1 ∙ c.into_vec-part-items.result.ok.0) in
    let turn = YieldsList-turn all c.loop-part.yielded c.loop-part.part-iterator c.loop-part.yielded_by c.next.result c.next.new.self c.in-Some.part c.in-Some.is c.next.ensures.steps in
    let parts : length c.into_vec-part-items.result.items ≡ length c.as_slice-faces.result.now =
    ap (length {A = NamedPart}) c.into_vec-part-items.ensures ∙ c.requires.parts ∙ sym (ap (length {A = WireFace}) c.as_slice-faces.ensures) in
    record {
      so_far = c.in_ok-push.ensures.ok
          ∙ ap (λ (x : ClassDecl). c.loop-part.named ++ x ∷ []) c.in_ok-name_class.ensures
          ∙ one_more c.args.directory.now c.args.first c.args.selects.now c.as_slice-faces.result.now c.loop-part.yielded c.len-i.result c.index-faces-i.result c.in-Some.part c.selects_under-own.result.now c.loop-part.named
          (omega (arith, turn.0, parts)) (c.len-i.ensures ∙ c.loop-part.invariant.many) c.index-faces-i.is c.selects_under-own.ensures.under c.loop-part.invariant.so_far;
      many = ap (length {A = ClassDecl}) c.in_ok-push.ensures.ok ∙ as_long c.loop-part.named c.loop-part.yielded _ c.in-Some.part c.loop-part.invariant.many;
    }
