-- The rule S14, and what it says of each body.
use Rattle.std.proofs.Common.{◌≡◌, ℕ, zero, suc, ◌==◌, Bool, true, false, ◌&&◌, List, [], ◌∷◌, map, flat_map, length, Option, Some, None, slice_get, refl, sym, ap, ◌∙◌, true≢false}
use Rattle.som_model.specs.Lists.{Mem, first}
use Rattle.som_model.specs.Same.{same_type}
use Rattle.som_model.specs.Class.{Class, introduced}
use Rattle.som_model.specs.Rules.{demand, demand_of, is_void, body_fits, s14}
use Rattle.som_model.specs.declared.key.ValueType.{ValueType}
use Rattle.som_model.specs.declared.key.ValueType.TheVariants as types
use Rattle.som_model.specs.declared.class.Sig.{Sig}
use Rattle.som_model.specs.declared.class.Entry.{Entry}
use Rattle.som_model.specs.declared.class.Entry.TheVariants as entries
use Rattle.som_model.specs.declared.class.Body.{Body}
use Rattle.som_model.specs.declared.class.Body.TheVariants as bodies
use Rattle.som_model.specs.declared.class.Variable.{Variable}
use Rattle.som_model.proofs.KeyLaws.{exact_numbers, both}
use Rattle.som_model.proofs.SameLaws.{exact_types}
use Rattle.som_verify_classes.specs.Fitting.{bodies_from}
use Rattle.som_verify_classes.specs.Plainly.{signatures, Fits, a_block, a_reader, a_writer, BodiesFit}
use Rattle.som_verify_classes.proofs.Before.{none_both, both_none, demanded}
use Rattle.som_verify_classes.proofs.Owners.{demanded_of}
use Rattle.som_verify_classes.proofs.PlainLists.{each_says, says_each}
use Rattle.som_verify_classes.proofs.PlainNames.{demand_none}
use Rattle.som_verify_classes.proofs.PlainMembers.{demand_of_none, both_true}

abbrev kinds : List Variable → List ValueType
kinds vs = map (λ v. v.kind) vs

kind_at : (vs : List Variable) (n : ℕ) (k : ValueType) → slice_get (kinds vs) n ≡ Some k → (v : Variable) × (slice_get vs n ≡ Some v) × (v.kind ≡ k)
kind_at [] n k e = absurd (cc)
kind_at (v ∷ vs) zero k e = let same : v.kind ≡ k = cc in (v, refl, same)
kind_at (v ∷ vs) (suc n) k e = kind_at vs n k e

at_kind : (vs : List Variable) (n : ℕ) (v : Variable) → slice_get vs n ≡ Some v → slice_get (kinds vs) n ≡ Some v.kind
at_kind [] n v e = absurd (cc)
at_kind (x ∷ vs) zero v e = let same : x ≡ v = cc in ap (λ (z : Variable). Some z.kind) same
at_kind (x ∷ vs) (suc n) v e = at_kind vs n v e

abbrev nothing : List ValueType → Bool
nothing [] = true
nothing (p ∷ ps) = false

abbrev just : List ValueType → ValueType → Bool
just (p ∷ []) t = same_type p t
just _ t = false

nothing_says : (ps : List ValueType) → nothing ps ≡ true → ps ≡ []
nothing_says [] e = refl
nothing_says (p ∷ ps) e = absurd (true≢false (sym e))

just_says : (ps : List ValueType) (t : ValueType) → just ps t ≡ true → ps ≡ t ∷ []
just_says [] t e = absurd (true≢false (sym e))
just_says (p ∷ []) t e = ap (λ z. z ∷ []) (exact_types.two p t e)
just_says (p ∷ q ∷ ps) t e = absurd (true≢false (sym e))

void_says : (t : ValueType) → is_void t ≡ true → t ≡ types.Void
void_says types.Void e = refl
void_says types.Long e = absurd (true≢false (sym e))
void_says types.Boolean e = absurd (true≢false (sym e))
void_says types.Str e = absurd (true≢false (sym e))
void_says (types.Class k) e = absurd (true≢false (sym e))

reader_says : (vs : List Variable) (sig : Sig) (n : ℕ) (o : Option ValueType) → slice_get (kinds vs) n ≡ o → body_fits vs sig (bodies.Get n) ≡ true → Fits vs sig (bodies.Get n)
reader_says vs sig n None e h = absurd (true≢false (sym (rw e at h)))
reader_says vs sig n (Some k) e h =
    let p = both (same_type k sig.result) (nothing sig.params) (rw e at h) in
    let v = kind_at vs n k e in
    a_reader n v.0 v.1 (sym (v.2 ∙ exact_types.two k sig.result p.0)) (nothing_says sig.params p.1)

both_false : (b : Bool) → (b && false) ≡ true → ⊥
both_false true e = true≢false (sym e)
both_false false e = true≢false (sym e)

writer_says : (vs : List Variable) (sig : Sig) (n : ℕ) (o : Option ValueType) → slice_get (kinds vs) n ≡ o → body_fits vs sig (bodies.Set n) ≡ true → Fits vs sig (bodies.Set n)
writer_says vs sig n None e h = absurd (both_false (is_void sig.result) (rw e at h))
writer_says vs sig n (Some k) e h =
    let p = both (is_void sig.result) (just sig.params k) (rw e at h) in
    let v = kind_at vs n k e in
    a_writer n v.0 v.1 (void_says sig.result p.0) (just_says sig.params k p.1 ∙ ap (λ z. z ∷ []) (sym v.2))

fits_says : (vs : List Variable) (sig : Sig) (b : Body) → body_fits vs sig b ≡ true → Fits vs sig b
fits_says vs sig (bodies.User block) e = a_block block
fits_says vs sig (bodies.Get n) e = reader_says vs sig n (slice_get (kinds vs) n) refl e
fits_says vs sig (bodies.Set n) e = writer_says vs sig n (slice_get (kinds vs) n) refl e

says_fits : (vs : List Variable) (sig : Sig) (b : Body) → Fits vs sig b → body_fits vs sig b ≡ true
says_fits vs sig b (a_block block) = refl
says_fits vs sig b (a_reader n v at result params) =
    let k = at_kind vs n v at in
    rw k (both_true (same_type v.kind sig.result) (nothing sig.params) (ap (same_type v.kind) result ∙ exact_types.one v.kind) (ap nothing params))
says_fits vs sig b (a_writer n v at result params) =
    let k = at_kind vs n v at in
    rw k (both_true (is_void sig.result) (just sig.params v.kind) (ap is_void result) (ap (λ ps. just ps v.kind) params ∙ exact_types.one v.kind))

from_says : (c : Class) (es : List Entry) (bs : List Body) → first (bodies_from c es bs) ≡ None
    → (i : ℕ) (sig : Sig) (b : Body) → slice_get (signatures es) i ≡ Some sig → slice_get bs i ≡ Some b → Fits c.decl.variables sig b
from_says c [] bs e i sig b f g = absurd (cc)
from_says c (entries.Moved name to ∷ es) bs e i sig b f g = from_says c es bs e i sig b f g
from_says c (entries.Introduced name s way ∷ es) [] e i sig b f g = absurd (cc)
from_says c (entries.Introduced name s way ∷ es) (x ∷ bs) e zero sig b f g =
    let p = none_both (demand_of 14 c name (body_fits c.decl.variables s x)) (bodies_from c es bs) e in
    let own : s ≡ sig = cc in
    let body : x ≡ b = cc in
    fits_says c.decl.variables sig b (ap (λ z. body_fits c.decl.variables z b) (sym own) ∙ ap (body_fits c.decl.variables s) (sym body) ∙ demanded_of 14 c name (body_fits c.decl.variables s x) p.0)
from_says c (entries.Introduced name s way ∷ es) (x ∷ bs) e (suc i) sig b f g =
    from_says c es bs (none_both (demand_of 14 c name (body_fits c.decl.variables s x)) (bodies_from c es bs) e).1 i sig b f g

says_from : (c : Class) (es : List Entry) (bs : List Body)
    → ((i : ℕ) (sig : Sig) (b : Body) → slice_get (signatures es) i ≡ Some sig → slice_get bs i ≡ Some b → Fits c.decl.variables sig b) → first (bodies_from c es bs) ≡ None
says_from c [] bs f = refl
says_from c (entries.Moved name to ∷ es) bs f = says_from c es bs f
says_from c (entries.Introduced name s way ∷ es) [] f = refl
says_from c (entries.Introduced name s way ∷ es) (x ∷ bs) f =
    both_none (demand_of 14 c name (body_fits c.decl.variables s x)) (bodies_from c es bs)
    (demand_of_none 14 c name (body_fits c.decl.variables s x) (says_fits c.decl.variables s x (f 0 s x refl refl)))
    (says_from c es bs (λ i sig b at there. f (suc i) sig b at there))

pub bodies_say : (cs : List Class) → first (flat_map s14 cs) ≡ None → BodiesFit cs
bodies_say cs e =
    let parts = λ (c : Class) (m : Mem c cs). none_both (demand 14 c (length c.decl.bodies == length (introduced c.decl.face.entries))) (bodies_from c c.decl.face.entries c.decl.bodies) (each_says s14 cs e c m) in
    record {
      as_many = λ c m. exact_numbers.two (length c.decl.bodies) (length (introduced c.decl.face.entries)) (demanded 14 c _ (parts c m).0);
      fit = λ c i sig b m f g. from_says c c.decl.face.entries c.decl.bodies (parts c m).1 i sig b f g;
    }

pub say_bodies : (cs : List Class) → BodiesFit cs → first (flat_map s14 cs) ≡ None
say_bodies cs rule = says_each s14 cs (λ c m.
    both_none (demand 14 c (length c.decl.bodies == length (introduced c.decl.face.entries))) (bodies_from c c.decl.face.entries c.decl.bodies)
    (demand_none 14 c _ (ap (λ n. n == length (introduced c.decl.face.entries)) (rule.as_many c m) ∙ exact_numbers.one (length (introduced c.decl.face.entries))))
    (says_from c c.decl.face.entries c.decl.bodies (λ i sig b f g. rule.fit c i sig b m f g)))
