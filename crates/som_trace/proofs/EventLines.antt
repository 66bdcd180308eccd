-- The line of a call, piece by piece.
use Rattle.std.proofs.Common.{◌≡◌, ℕ, Bool, true, if◌then◌else◌, List, [], ◌∷◌, ◌++◌, codes, refl, sym, ap, ◌∙◌, append_assoc}
use Rattle.std.specs.List.{concat}
use Rattle.std.proofs.lemmas.List.{append-nil}
use Rattle.std.proofs.lemmas.List.Folds.{concat-append}
use Rattle.som_model.specs.declared.key.ClassKey.{ClassKey}
use Rattle.som_model.specs.ClassNames.{class_name}
use Rattle.som_semantics.specs.RunText.{call_line, way_name, with_prefix}
use Rattle.som_semantics.specs.State.{Called, Manner}
use Rattle.som_model.specs.declared.key.MethodRef.{MethodRef}
use Rattle.som_meta.specs.Numbering.{Numbering, key_at, method_at}
use Rattle.som_trace.specs.Events.{call_event, manner_of}
use Rattle.som_trace.specs.Told.{event_text}
use Rattle.som_trace.specs.declared.call.Call.{Call}
use Rattle.som_trace.specs.Pieces.{name_pieces}
use Rattle.som_trace.proofs.Names.{name_is}

-- a name, and the pieces after it
named_text : (key : ClassKey) (pieces : List (List ℕ)) → concat (name_pieces key ++ pieces) ≡ class_name key ++ concat pieces
named_text key pieces = concat-append (name_pieces key) pieces ∙ ap (λ (x : List ℕ). x ++ concat pieces) (name_is key)

-- the bytes of the line, regrouped
regroup_call : (p a o b n c w d k e : List ℕ) → p ++ (a ++ (o ++ (b ++ (n ++ (c ++ (w ++ (d ++ (k ++ e)))))))) ≡ (p ++ (a ++ (o ++ b ++ n) ++ c ++ w ++ d ++ k ++ e)) ++ []
regroup_call p a o b n c w d k e = simp (append_assoc, append-nil) refl

-- the pieces of the line of a call: the names of the class that introduces the method and of the class whose body it is, and what stands between
pub call_text : (prefix : List ℕ) (owner class : ClassKey) (name word : List ℕ) →
    concat (prefix ∷ codes "# call " ∷ (name_pieces owner ++ codes "::" ∷ name ∷ codes " " ∷ word ∷ codes " " ∷ (name_pieces class ++ codes "\n" ∷ [])))
    ≡ (prefix ++ (codes "# call " ++ (class_name owner ++ codes "::" ++ name) ++ codes " " ++ word ++ codes " " ++ class_name class ++ 10 ∷ [])) ++ []
call_text prefix owner class name word =
    ap (λ (x : List ℕ). prefix ++ (codes "# call " ++ x))
    (named_text owner (codes "::" ∷ name ∷ codes " " ∷ word ∷ codes " " ∷ (name_pieces class ++ codes "\n" ∷ []))
    ∙ ap (λ (x : List ℕ). class_name owner ++ (codes "::" ++ (name ++ (codes " " ++ (word ++ (codes " " ++ x)))))) (named_text class (codes "\n" ∷ [])))
    ∙ regroup_call prefix (codes "# call ") (class_name owner) (codes "::") name (codes " ") word (codes " ") (class_name class) (10 ∷ [])

-- the line of a call that is shown
pub call_shown : (shows : List ℕ → Bool) (prefix : List ℕ) (r : MethodRef) (way : Manner) (k : ClassKey) → shows (class_name k) ≡ true →
    concat (prefix ∷ codes "# call " ∷ (name_pieces r.class ++ codes "::" ∷ r.name ∷ codes " " ∷ way_name way ∷ codes " " ∷ (name_pieces k ++ codes "\n" ∷ [])))
    ≡ event_text shows prefix (Called r way k)
call_shown shows prefix r way k e =
    call_text prefix r.class k r.name (way_name way)
    ∙ ap (λ (b : Bool). concat (with_prefix prefix (if b then call_line r way k ∷ [] else []))) (sym e)

-- the pieces of a call's line, of which front, names and word are known to be these
pub call_pieces : (shows : List ℕ → Bool) (prefix : List ℕ) (k : Numbering) (call : Call) (front name word : List ℕ) (owner class : ℕ) →
    front ≡ prefix → owner ≡ call.method.0 → name ≡ (method_at k call.method).name → word ≡ way_name (manner_of call.manner) → class ≡ call.class
    → shows (class_name (key_at k call.class)) ≡ true
    → concat (front ∷ codes "# call " ∷ (name_pieces (key_at k owner) ++ codes "::" ∷ name ∷ codes " " ∷ word ∷ codes " " ∷ (name_pieces (key_at k class) ++ codes "\n" ∷ [])))
    ≡ event_text shows prefix (call_event k call)
call_pieces shows prefix k call front name word owner class a b c d e t =
    ap (λ (x : List ℕ). concat (x ∷ codes "# call " ∷ (name_pieces (key_at k owner) ++ codes "::" ∷ name ∷ codes " " ∷ word ∷ codes " " ∷ (name_pieces (key_at k class) ++ codes "\n" ∷ [])))) a
    ∙ ap (λ (x : ℕ). concat (prefix ∷ codes "# call " ∷ (name_pieces (key_at k x) ++ codes "::" ∷ name ∷ codes " " ∷ word ∷ codes " " ∷ (name_pieces (key_at k class) ++ codes "\n" ∷ [])))) b
    ∙ ap (λ (x : List ℕ). concat (prefix ∷ codes "# call " ∷ (name_pieces (key_at k call.method.0) ++ codes "::" ∷ x ∷ codes " " ∷ word ∷ codes " " ∷ (name_pieces (key_at k class) ++ codes "\n" ∷ [])))) c
    ∙ ap (λ (x : List ℕ). concat (prefix ∷ codes "# call " ∷ (name_pieces (key_at k call.method.0) ++ codes "::" ∷ (method_at k call.method).name ∷ codes " " ∷ x ∷ codes " " ∷ (name_pieces (key_at k class) ++ codes "\n" ∷ [])))) d
    ∙ ap (λ (x : ℕ). concat (prefix ∷ codes "# call " ∷ (name_pieces (key_at k call.method.0) ++ codes "::" ∷ (method_at k call.method).name ∷ codes " " ∷ way_name (manner_of call.manner) ∷ codes " " ∷ (name_pieces (key_at k x) ++ codes "\n" ∷ [])))) e
    ∙ call_shown shows prefix (method_at k call.method) (manner_of call.manner) (key_at k call.class) t
