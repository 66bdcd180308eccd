-- Expressions are fields.
use Rattle.std.proofs.Common.{◌≡◌, ℕ, ℤ, zero, suc, ◌<◌, ◌≤◌, ◌^◌, Bool, true, false, cond, eqb, ltb, List, [], ◌∷◌, ◌++◌, length, map, Result, Ok, Err, refl, sym, ap, subst, ◌∙◌, arith}
use Rattle.std.specs.Prelude.{FitsSigned, IsTrue}
use Rattle.std.specs.List.{flat_map}
use Rattle.std.specs.Int.{w8, w16, w32, cast_signed, cast_unsigned}
use Rattle.std.proofs.lemmas.Bool.{ltb-true, lt-ltb}
use Rattle.std.proofs.lemmas.Int.{of_z-to_z, to_z-of_z}
use Rattle.std.proofs.Math.Facts.{sfits_to_z, Fits-of_z}
use Rattle.std.proofs.lemmas.List.{length-map}
use Rattle.som_model.specs.Bytes.{AreBytes}
use Rattle.som_model.specs.Steps.{◌>>=◌}
use Rattle.som_model.specs.declared.limits.TheConstants.{MAX_PARAMETERS}
use Rattle.som_model.specs.declared.syntax.HostCode.{HostCode}
use Rattle.som_model.specs.declared.syntax.HostCode.TheVariants as hosts
use Rattle.som_image_fields.specs.declared.fault.ImageFault.{ImageFault}
use Rattle.som_image_fields.specs.declared.fault.ImageFault.TheVariants as faults
use Rattle.som_image_fields.specs.declared.read.Read.{Read}
use Rattle.som_image_fields.specs.declared.kind.WireType.{WireType}
use Rattle.som_image_fields.specs.declared.method.WireMethod.{WireMethod}
use Rattle.som_image_fields.specs.declared.method.Ranges.{Ranges}
use Rattle.som_image_fields.specs.Fields.{Stands, done}
use Rattle.som_image_fields.specs.Spelling.{number, text, FitsText, counted, kind, FitsKind, method, FitsMethod, AreShort}
use Rattle.som_image_fields.specs.Reading.{number_at, text_at, below_at, kind_at, method_at}
use Rattle.som_image_fields.proofs.Parts.{IsField, guard_yes, same_read, came, took}
use Rattle.som_image_fields.proofs.NumberFields.{byte_field, short_field, long_field, below_field, text_field}
use Rattle.som_image_fields.proofs.ManyFields.{counted_field}
use Rattle.som_image_fields.proofs.TypeFields.{tagged, kind_field}
use Rattle.som_image_fields.proofs.EntryFields.{method_field}
use Rattle.som_image_fields.specs.declared.syntax.WireExpr.{WireExpr, out-WireExpr, roll-WireExpr, out-roll-WireExpr, roll-out-WireExpr, fold-roll-WireExpr}
use Rattle.som_image_fields.specs.declared.syntax.WireExpr.TheVariants as exprs
use Rattle.som_image_fields.specs.declared.syntax.WireExpr.TheVariants.{rolls-Long, rolls-Str, rolls-Boolean, rolls-Nil, rolls-Local, rolls-Me, rolls-Variable, rolls-New, rolls-Class, rolls-Manager, rolls-Unary, rolls-Cast, rolls-Isa, rolls-Proxy, rolls-Binary, rolls-Host, rolls-OffsetCall, rolls-Lookup, rolls-Dispatch, rolls-ParentCall, rolls-ParentsCall}
use Rattle.som_image_fields.specs.declared.syntax.WireExpr.TheOpen.{WireExpr-F}
use Rattle.som_wire.specs.Making.{Reads, of_one, of_two, of_three, of_four}
use Rattle.som_image_fields.specs.SyntaxSpelling.{truth, host, args, expr_step, expr}
use Rattle.som_image_fields.specs.Fitting.{FitsArgs, FitsExprParts, FitsExpr, calls, FitsCall}
use Rattle.som_image_fields.proofs.Forms.{flat_of}
use Rattle.som_wire.specs.Reading.{signed_at, operator_at, truth_at, host_after, host_at, too_deep, args_at, call_after, expr_after, is_call_tag, is_expr_tag, expr_at, call_at}
use Rattle.som_wire.proofs.Made.{IsMade, made_none, made_one, made_two, made_three, made_four, fits_alike, IsCase, a_case, pick}

-- ---- operators, flags and numbers with a sign

operator_takes : (limit : ℕ) (bytes : List ℕ) → AreBytes bytes → (place : ℕ) (r : Read ℕ) → place ≤ length bytes → operator_at limit bytes place ≡ Ok r → Stands bytes place (number w8 r.value) r.next × (r.value < limit)
unfolding operator_at
operator_takes limit bytes all place r le e =
    let n = took (number_at w8) (number w8) (λ n. n < 2 ^ 8) byte_field bytes all place le (λ n. cond (ltb n.value limit) (Ok n) (Err (faults.Tag place))) r e in
    let g = guard_yes (ltb n.0.value limit) (faults.Tag place) (Ok n.0) r n.3 in
    subst (λ (x : Read ℕ). Stands bytes place (number w8 x.value) x.next × (x.value < limit)) (same_read n.0 r g.1) (n.1, ltb-true _ _ g.0)

operator_again : (limit : ℕ) → limit ≤ 256 → (bytes : List ℕ) (place n next : ℕ) → Stands bytes place (number w8 n) next → n < limit → operator_at limit bytes place ≡ done n next
unfolding operator_at
operator_again limit small bytes place n next h lt =
    let read = byte_field.again bytes place n next h (omega arith) in
    rw (read, lt-ltb n limit lt) refl

operator_field : (limit : ℕ) → limit ≤ 256 → IsField (operator_at limit) (number w8) (λ n. n < limit)
operator_field limit small = record { takes = operator_takes limit; again = operator_again limit small }

abbrev signed : ℤ → List ℕ
signed z = number w32 (cast_unsigned w32 z)

signed_fits : (n : ℕ) → n < 2 ^ 32 → FitsSigned w32 (cast_signed w32 n)
signed_fits n small = sfits_to_z (record { fits = small })

unsigned_fits : (z : ℤ) → FitsSigned w32 z → cast_unsigned w32 z < 2 ^ 32
unsigned_fits z fits = (Fits-of_z fits).fits

signed_takes : (bytes : List ℕ) → AreBytes bytes → (place : ℕ) (r : Read ℤ) → place ≤ length bytes → signed_at bytes place ≡ Ok r → Stands bytes place (signed r.value) r.next × FitsSigned w32 r.value
unfolding signed_at
signed_takes bytes all place r le e =
    let n = took (number_at w32) (number w32) (λ n. n < 2 ^ 32) long_field bytes all place le (λ n. done (cast_signed w32 n.value) n.next) r e in
    let same : number w32 n.0.value ≡ signed (cast_signed w32 n.0.value) = ap (λ (x : ℕ). number w32 x) (sym (of_z-to_z w32 n.0.value n.2)) in
    came signed (FitsSigned w32) bytes place (cast_signed w32 n.0.value) n.0.next r n.3 (subst (λ (t : List ℕ). Stands bytes place t n.0.next) same n.1) (signed_fits n.0.value n.2)

signed_again : (bytes : List ℕ) (place : ℕ) (z : ℤ) (next : ℕ) → Stands bytes place (signed z) next → FitsSigned w32 z → signed_at bytes place ≡ done z next
unfolding signed_at
signed_again bytes place z next h fits =
    let read = long_field.again bytes place (cast_unsigned w32 z) next h (unsigned_fits z fits) in
    rw (read, to_z-of_z w32 z fits) refl

signed_field : IsField signed_at signed (FitsSigned w32)
signed_field = record { takes = signed_takes; again = signed_again }

abbrev flag : Bool → List ℕ
flag b = number w8 (truth b)

abbrev AnyFlag : Bool → Type 0
AnyFlag b = Unit {0}

truth_takes : (bytes : List ℕ) → AreBytes bytes → (place : ℕ) (r : Read Bool) → place ≤ length bytes → truth_at bytes place ≡ Ok r → Stands bytes place (flag r.value) r.next × AnyFlag r.value
unfolding truth_at
truth_takes bytes all place r le e =
    let n = took (number_at w8) (number w8) (λ n. n < 2 ^ 8) byte_field bytes all place le (λ flag. cond (eqb flag.value 0) (done false flag.next) (cond (eqb flag.value 1) (done true flag.next) (Err (faults.Tag place)))) r e in
    pick _ (eqb n.0.value 0) _ _ r n.3 (λ is e. came flag AnyFlag bytes place false n.0.next r e (tagged bytes place n.0 0 n.1 is) tt) (λ e.
    pick _ (eqb n.0.value 1) _ _ r e (λ is e. came flag AnyFlag bytes place true n.0.next r e (tagged bytes place n.0 1 n.1 is) tt) (λ e.
    absurd (let z = e in cc)))

truth_again : (bytes : List ℕ) (place : ℕ) (b : Bool) (next : ℕ) → Stands bytes place (flag b) next → AnyFlag b → truth_at bytes place ≡ done b next
unfolding truth_at
truth_again bytes place false next h fits = rw (byte_field.again bytes place 0 next h (omega arith)) refl
truth_again bytes place true next h fits = rw (byte_field.again bytes place 1 next h (omega arith)) refl

truth_field : IsField truth_at flag AnyFlag
truth_field = record { takes = truth_takes; again = truth_again }

abbrev code : HostCode → List ℕ
code c = number w8 (host c)

abbrev AnyCode : HostCode → Type 0
AnyCode c = Unit {0}

host_takes : (bytes : List ℕ) → AreBytes bytes → (place : ℕ) (r : Read HostCode) → place ≤ length bytes → host_at bytes place ≡ Ok r → Stands bytes place (code r.value) r.next × AnyCode r.value
unfolding host_at
host_takes bytes all place r le e =
    let n = took (number_at w8) (number w8) (λ n. n < 2 ^ 8) byte_field bytes all place le (host_after place) r e in
    pick _ (eqb n.0.value 0) _ _ r n.3 (λ is e. came code AnyCode bytes place hosts.Min n.0.next r e (tagged bytes place n.0 0 n.1 is) tt) (λ e.
    pick _ (eqb n.0.value 1) _ _ r e (λ is e. came code AnyCode bytes place hosts.Max n.0.next r e (tagged bytes place n.0 1 n.1 is) tt) (λ e.
    pick _ (eqb n.0.value 2) _ _ r e (λ is e. came code AnyCode bytes place hosts.And n.0.next r e (tagged bytes place n.0 2 n.1 is) tt) (λ e.
    pick _ (eqb n.0.value 3) _ _ r e (λ is e. came code AnyCode bytes place hosts.Or n.0.next r e (tagged bytes place n.0 3 n.1 is) tt) (λ e.
    pick _ (eqb n.0.value 4) _ _ r e (λ is e. came code AnyCode bytes place hosts.Xor n.0.next r e (tagged bytes place n.0 4 n.1 is) tt) (λ e.
    pick _ (eqb n.0.value 5) _ _ r e (λ is e. came code AnyCode bytes place hosts.WrapAdd n.0.next r e (tagged bytes place n.0 5 n.1 is) tt) (λ e.
    absurd (let z = e in cc)))))))

host_again : (bytes : List ℕ) (place : ℕ) (c : HostCode) (next : ℕ) → Stands bytes place (code c) next → AnyCode c → host_at bytes place ≡ done c next
unfolding host_at
host_again bytes place hosts.Min next h fits = rw (byte_field.again bytes place 0 next h (omega arith)) refl
host_again bytes place hosts.Max next h fits = rw (byte_field.again bytes place 1 next h (omega arith)) refl
host_again bytes place hosts.And next h fits = rw (byte_field.again bytes place 2 next h (omega arith)) refl
host_again bytes place hosts.Or next h fits = rw (byte_field.again bytes place 3 next h (omega arith)) refl
host_again bytes place hosts.Xor next h fits = rw (byte_field.again bytes place 4 next h (omega arith)) refl
host_again bytes place hosts.WrapAdd next h fits = rw (byte_field.again bytes place 5 next h (omega arith)) refl

host_field : IsField host_at code AnyCode
host_field = record { takes = host_takes; again = host_again }

-- ---- arguments

pub args_are : (es : List WireExpr) → args (map expr es) ≡ counted w8 expr es
args_are es = ap (λ (n : ℕ). number w8 n ++ flat_map (λ (t : List ℕ). t) (map expr es)) (length-map es expr) ∙ ap (λ (t : List ℕ). number w8 (length es) ++ t) (flat_of expr es)

-- what an expression is, by its outermost part
value_is : (v : WireExpr) (layer : WireExpr-F WireExpr) (w : WireExpr) → out-WireExpr v ≡ layer → roll-WireExpr layer ≡ w → v ≡ w
value_is v layer w is rolls = sym (roll-out-WireExpr v) ∙ ap roll-WireExpr is ∙ rolls

-- ---- expressions, by those that can stand in them

module _ (ranges : Ranges) (known : AreShort ranges) (inner : Reads WireExpr) (Inner : WireExpr → Type 0) (field : IsField inner expr Inner) where
  class_field : IsField (below_at ranges.classes) (number w16) (λ n. n < ranges.classes)
  class_field = below_field ranges.classes (omega (arith, known.classes))

  args_field : IsField (args_at inner) (counted w8 expr) (FitsArgs Inner)
  args_field = counted_field w8 (2 ^ 8) byte_field inner expr Inner field 0 MAX_PARAMETERS (omega arith)

  abbrev Parts : WireExpr-F WireExpr → Type 0
  Parts = FitsExprParts ranges.classes (FitsMethod ranges) Inner

  abbrev FitsHere : WireExpr → Type 0
  FitsHere e = Parts (out-WireExpr e)

  abbrev FitsCalls : WireExpr → Type 0
  FitsCalls e = Parts (out-WireExpr e) × IsTrue (calls (out-WireExpr e))

  expr_case : {P : Type 0} (one : Reads WireExpr) (make : P → WireExpr) (rest : P → List ℕ) (layer : P → WireExpr-F WireExpr) → IsMade one make rest (λ p. Parts (layer p)) → (tag : ℕ) → tag < 256 → ((p : P) → roll-WireExpr (layer p) ≡ make p) → ((p : P) → expr (roll-WireExpr (layer p)) ≡ tag ∷ rest p) → IsCase one make (λ p. Parts (layer p)) tag expr FitsHere
  expr_case one make rest layer made tag small rolls spelled =
      a_case one make rest (λ p. Parts (layer p)) made tag small expr FitsHere (λ p. ap expr (sym (rolls p)) ∙ spelled p)
      (λ p parts. subst (λ (x : WireExpr-F WireExpr). Parts x) (sym (ap out-WireExpr (sym (rolls p)) ∙ out-roll-WireExpr (layer p))) parts)

  call_case : {P : Type 0} (one : Reads WireExpr) (make : P → WireExpr) (rest : P → List ℕ) (layer : P → WireExpr-F WireExpr) → IsMade one make rest (λ p. Parts (layer p)) → (tag : ℕ) → tag < 256 → ((p : P) → roll-WireExpr (layer p) ≡ make p) → ((p : P) → expr (roll-WireExpr (layer p)) ≡ tag ∷ rest p) → ((p : P) → IsTrue (calls (layer p))) → IsCase one make (λ p. Parts (layer p)) tag expr FitsCalls
  call_case one make rest layer made tag small rolls spelled call =
      a_case one make rest (λ p. Parts (layer p)) made tag small expr FitsCalls (λ p. ap expr (sym (rolls p)) ∙ spelled p)
      (λ p parts. subst (λ (x : WireExpr-F WireExpr). Parts x × IsTrue (calls x)) (sym (ap out-WireExpr (sym (rolls p)) ∙ out-roll-WireExpr (layer p))) (parts, call p))

  long_case : IsCase (of_one signed_at exprs.Long) (λ (p : ℤ). exprs.Long p) (λ p. Parts ((λ (p : ℤ). WireExpr-F.Long p) p)) 0x20 expr FitsHere
  long_case = expr_case (of_one signed_at exprs.Long) (λ (p : ℤ). exprs.Long p) (λ (p : ℤ). signed p)
      (λ (p : ℤ). WireExpr-F.Long p)
      (made_one signed_at signed (FitsSigned w32) signed_field exprs.Long) 0x20 (omega arith)
      (λ p. rolls-Long p)
      (λ p. fold-roll-WireExpr (List ℕ) expr_step (WireExpr-F.Long p))

  str_case : IsCase (of_one text_at exprs.Str) (λ (p : (List ℕ)). exprs.Str p) (λ p. Parts ((λ (p : (List ℕ)). WireExpr-F.Str p) p)) 0x21 expr FitsHere
  str_case = expr_case (of_one text_at exprs.Str) (λ (p : (List ℕ)). exprs.Str p) (λ (p : (List ℕ)). text p)
      (λ (p : (List ℕ)). WireExpr-F.Str p)
      (made_one text_at text FitsText text_field exprs.Str) 0x21 (omega arith)
      (λ p. rolls-Str p)
      (λ p. fold-roll-WireExpr (List ℕ) expr_step (WireExpr-F.Str p))

  boolean_case : IsCase (of_one truth_at exprs.Boolean) (λ (p : Bool). exprs.Boolean p) (λ p. Parts ((λ (p : Bool). WireExpr-F.Boolean p) p)) 0x22 expr FitsHere
  boolean_case = expr_case (of_one truth_at exprs.Boolean) (λ (p : Bool). exprs.Boolean p) (λ (p : Bool). flag p)
      (λ (p : Bool). WireExpr-F.Boolean p)
      (made_one truth_at flag (λ b. Unit {0}) truth_field exprs.Boolean) 0x22 (omega arith)
      (λ p. rolls-Boolean p)
      (λ p. fold-roll-WireExpr (List ℕ) expr_step (WireExpr-F.Boolean p))

  nil_case : IsCase (λ bytes place. done exprs.Nil place) (λ (p : Unit {0}). exprs.Nil) (λ p. Parts ((λ (p : Unit {0}). WireExpr-F.Nil) p)) 0x23 expr FitsHere
  nil_case = expr_case (λ bytes place. done exprs.Nil place) (λ (p : Unit {0}). exprs.Nil) (λ (p : Unit {0}). [])
      (λ (p : Unit {0}). WireExpr-F.Nil)
      (made_none exprs.Nil) 0x23 (omega arith)
      (λ p. rolls-Nil)
      (λ p. fold-roll-WireExpr (List ℕ) expr_step (WireExpr-F.Nil))

  local_case : IsCase (of_one (number_at w16) exprs.Local) (λ (p : ℕ). exprs.Local p) (λ p. Parts ((λ (p : ℕ). WireExpr-F.Local p) p)) 0x24 expr FitsHere
  local_case = expr_case (of_one (number_at w16) exprs.Local) (λ (p : ℕ). exprs.Local p) (λ (p : ℕ). (number w16) p)
      (λ (p : ℕ). WireExpr-F.Local p)
      (made_one (number_at w16) (number w16) (λ n. n < 2 ^ 16) short_field exprs.Local) 0x24 (omega arith)
      (λ p. rolls-Local p)
      (λ p. fold-roll-WireExpr (List ℕ) expr_step (WireExpr-F.Local p))

  me_case : IsCase (λ bytes place. done exprs.Me place) (λ (p : Unit {0}). exprs.Me) (λ p. Parts ((λ (p : Unit {0}). WireExpr-F.Me) p)) 0x25 expr FitsHere
  me_case = expr_case (λ bytes place. done exprs.Me place) (λ (p : Unit {0}). exprs.Me) (λ (p : Unit {0}). [])
      (λ (p : Unit {0}). WireExpr-F.Me)
      (made_none exprs.Me) 0x25 (omega arith)
      (λ p. rolls-Me)
      (λ p. fold-roll-WireExpr (List ℕ) expr_step (WireExpr-F.Me))

  variable_case : IsCase (of_one (number_at w8) exprs.Variable) (λ (p : ℕ). exprs.Variable p) (λ p. Parts ((λ (p : ℕ). WireExpr-F.Variable p) p)) 0x26 expr FitsHere
  variable_case = expr_case (of_one (number_at w8) exprs.Variable) (λ (p : ℕ). exprs.Variable p) (λ (p : ℕ). (number w8) p)
      (λ (p : ℕ). WireExpr-F.Variable p)
      (made_one (number_at w8) (number w8) (λ n. n < 2 ^ 8) byte_field exprs.Variable) 0x26 (omega arith)
      (λ p. rolls-Variable p)
      (λ p. fold-roll-WireExpr (List ℕ) expr_step (WireExpr-F.Variable p))

  new_case : IsCase (of_one (below_at ranges.classes) exprs.New) (λ (p : ℕ). exprs.New p) (λ p. Parts ((λ (p : ℕ). WireExpr-F.New p) p)) 0x29 expr FitsHere
  new_case = expr_case (of_one (below_at ranges.classes) exprs.New) (λ (p : ℕ). exprs.New p) (λ (p : ℕ). (number w16) p)
      (λ (p : ℕ). WireExpr-F.New p)
      (made_one (below_at ranges.classes) (number w16) (λ n. n < ranges.classes) class_field exprs.New) 0x29 (omega arith)
      (λ p. rolls-New p)
      (λ p. fold-roll-WireExpr (List ℕ) expr_step (WireExpr-F.New p))

  class_case : IsCase (of_one (below_at ranges.classes) exprs.Class) (λ (p : ℕ). exprs.Class p) (λ p. Parts ((λ (p : ℕ). WireExpr-F.Class p) p)) 0x2a expr FitsHere
  class_case = expr_case (of_one (below_at ranges.classes) exprs.Class) (λ (p : ℕ). exprs.Class p) (λ (p : ℕ). (number w16) p)
      (λ (p : ℕ). WireExpr-F.Class p)
      (made_one (below_at ranges.classes) (number w16) (λ n. n < ranges.classes) class_field exprs.Class) 0x2a (omega arith)
      (λ p. rolls-Class p)
      (λ p. fold-roll-WireExpr (List ℕ) expr_step (WireExpr-F.Class p))

  manager_case : IsCase (λ bytes place. done exprs.Manager place) (λ (p : Unit {0}). exprs.Manager) (λ p. Parts ((λ (p : Unit {0}). WireExpr-F.Manager) p)) 0x2b expr FitsHere
  manager_case = expr_case (λ bytes place. done exprs.Manager place) (λ (p : Unit {0}). exprs.Manager) (λ (p : Unit {0}). [])
      (λ (p : Unit {0}). WireExpr-F.Manager)
      (made_none exprs.Manager) 0x2b (omega arith)
      (λ p. rolls-Manager)
      (λ p. fold-roll-WireExpr (List ℕ) expr_step (WireExpr-F.Manager))

  unary_case : IsCase (of_two (operator_at 4) inner exprs.Unary) (λ (p : ℕ × WireExpr). exprs.Unary p.0 p.1) (λ p. Parts ((λ (p : ℕ × WireExpr). WireExpr-F.Unary p.0 p.1) p)) 0x27 expr FitsHere
  unary_case = expr_case (of_two (operator_at 4) inner exprs.Unary) (λ (p : ℕ × WireExpr). exprs.Unary p.0 p.1) (λ (p : ℕ × WireExpr). (number w8) p.0 ++ expr p.1)
      (λ (p : ℕ × WireExpr). WireExpr-F.Unary p.0 p.1)
      (made_two (operator_at 4) (number w8) (λ n. n < 4) (operator_field 4 (omega arith)) inner expr Inner field exprs.Unary) 0x27 (omega arith)
      (λ p. rolls-Unary p.0 p.1)
      (λ p. fold-roll-WireExpr (List ℕ) expr_step (WireExpr-F.Unary p.0 p.1))

  cast_case : IsCase (of_two (below_at ranges.classes) inner exprs.Cast) (λ (p : ℕ × WireExpr). exprs.Cast p.0 p.1) (λ p. Parts ((λ (p : ℕ × WireExpr). WireExpr-F.Cast p.0 p.1) p)) 0x2c expr FitsHere
  cast_case = expr_case (of_two (below_at ranges.classes) inner exprs.Cast) (λ (p : ℕ × WireExpr). exprs.Cast p.0 p.1) (λ (p : ℕ × WireExpr). (number w16) p.0 ++ expr p.1)
      (λ (p : ℕ × WireExpr). WireExpr-F.Cast p.0 p.1)
      (made_two (below_at ranges.classes) (number w16) (λ n. n < ranges.classes) class_field inner expr Inner field exprs.Cast) 0x2c (omega arith)
      (λ p. rolls-Cast p.0 p.1)
      (λ p. fold-roll-WireExpr (List ℕ) expr_step (WireExpr-F.Cast p.0 p.1))

  isa_case : IsCase (of_two (below_at ranges.classes) inner exprs.Isa) (λ (p : ℕ × WireExpr). exprs.Isa p.0 p.1) (λ p. Parts ((λ (p : ℕ × WireExpr). WireExpr-F.Isa p.0 p.1) p)) 0x2d expr FitsHere
  isa_case = expr_case (of_two (below_at ranges.classes) inner exprs.Isa) (λ (p : ℕ × WireExpr). exprs.Isa p.0 p.1) (λ (p : ℕ × WireExpr). (number w16) p.0 ++ expr p.1)
      (λ (p : ℕ × WireExpr). WireExpr-F.Isa p.0 p.1)
      (made_two (below_at ranges.classes) (number w16) (λ n. n < ranges.classes) class_field inner expr Inner field exprs.Isa) 0x2d (omega arith)
      (λ p. rolls-Isa p.0 p.1)
      (λ p. fold-roll-WireExpr (List ℕ) expr_step (WireExpr-F.Isa p.0 p.1))

  proxy_case : IsCase (of_two (below_at ranges.classes) inner exprs.Proxy) (λ (p : ℕ × WireExpr). exprs.Proxy p.0 p.1) (λ p. Parts ((λ (p : ℕ × WireExpr). WireExpr-F.Proxy p.0 p.1) p)) 0x2e expr FitsHere
  proxy_case = expr_case (of_two (below_at ranges.classes) inner exprs.Proxy) (λ (p : ℕ × WireExpr). exprs.Proxy p.0 p.1) (λ (p : ℕ × WireExpr). (number w16) p.0 ++ expr p.1)
      (λ (p : ℕ × WireExpr). WireExpr-F.Proxy p.0 p.1)
      (made_two (below_at ranges.classes) (number w16) (λ n. n < ranges.classes) class_field inner expr Inner field exprs.Proxy) 0x2e (omega arith)
      (λ p. rolls-Proxy p.0 p.1)
      (λ p. fold-roll-WireExpr (List ℕ) expr_step (WireExpr-F.Proxy p.0 p.1))

  binary_case : IsCase (of_three (operator_at 14) inner inner exprs.Binary) (λ (p : ℕ × WireExpr × WireExpr). exprs.Binary p.0 p.1 p.2) (λ p. Parts ((λ (p : ℕ × WireExpr × WireExpr). WireExpr-F.Binary p.0 p.1 p.2) p)) 0x28 expr FitsHere
  binary_case = expr_case (of_three (operator_at 14) inner inner exprs.Binary) (λ (p : ℕ × WireExpr × WireExpr). exprs.Binary p.0 p.1 p.2) (λ (p : ℕ × WireExpr × WireExpr). (number w8) p.0 ++ expr p.1 ++ expr p.2)
      (λ (p : ℕ × WireExpr × WireExpr). WireExpr-F.Binary p.0 p.1 p.2)
      (made_three (operator_at 14) (number w8) (λ n. n < 14) (operator_field 14 (omega arith)) inner expr Inner field inner expr Inner field exprs.Binary) 0x28 (omega arith)
      (λ p. rolls-Binary p.0 p.1 p.2)
      (λ p. fold-roll-WireExpr (List ℕ) expr_step (WireExpr-F.Binary p.0 p.1 p.2))

  host_case : IsCase (of_three host_at inner inner exprs.Host) (λ (p : HostCode × WireExpr × WireExpr). exprs.Host p.0 p.1 p.2) (λ p. Parts ((λ (p : HostCode × WireExpr × WireExpr). WireExpr-F.Host p.0 p.1 p.2) p)) 0x34 expr FitsHere
  host_case = expr_case (of_three host_at inner inner exprs.Host) (λ (p : HostCode × WireExpr × WireExpr). exprs.Host p.0 p.1 p.2) (λ (p : HostCode × WireExpr × WireExpr). code p.0 ++ expr p.1 ++ expr p.2)
      (λ (p : HostCode × WireExpr × WireExpr). WireExpr-F.Host p.0 p.1 p.2)
      (fits_alike (of_three host_at inner inner exprs.Host) (λ (p : HostCode × WireExpr × WireExpr). exprs.Host p.0 p.1 p.2) (λ (p : HostCode × WireExpr × WireExpr). code p.0 ++ expr p.1 ++ expr p.2) (λ (p : HostCode × WireExpr × WireExpr). Unit {0} × Inner p.1 × Inner p.2) (λ (p : HostCode × WireExpr × WireExpr). Inner p.1 × Inner p.2) (λ p fits. (fits.1, fits.2)) (λ p fits. (tt, fits.0, fits.1)) (made_three host_at code (λ c. Unit {0}) host_field inner expr Inner field inner expr Inner field exprs.Host)) 0x34 (omega arith)
      (λ p. rolls-Host p.0 p.1 p.2)
      (λ p. fold-roll-WireExpr (List ℕ) expr_step (WireExpr-F.Host p.0 p.1 p.2))

  offset_case : IsCase (of_three (method_at ranges) inner (args_at inner) exprs.OffsetCall) (λ (p : WireMethod × WireExpr × (List WireExpr)). exprs.OffsetCall p.0 p.1 p.2) (λ p. Parts ((λ (p : WireMethod × WireExpr × (List WireExpr)). WireExpr-F.OffsetCall p.0 p.1 p.2) p)) 0x2f expr FitsCalls
  offset_case = call_case (of_three (method_at ranges) inner (args_at inner) exprs.OffsetCall) (λ (p : WireMethod × WireExpr × (List WireExpr)). exprs.OffsetCall p.0 p.1 p.2) (λ (p : WireMethod × WireExpr × (List WireExpr)). method p.0 ++ expr p.1 ++ (counted w8 expr) p.2)
      (λ (p : WireMethod × WireExpr × (List WireExpr)). WireExpr-F.OffsetCall p.0 p.1 p.2)
      (made_three (method_at ranges) method (FitsMethod ranges) (method_field ranges known) inner expr Inner field (args_at inner) (counted w8 expr) (FitsArgs Inner) args_field exprs.OffsetCall) 0x2f (omega arith)
      (λ p. rolls-OffsetCall p.0 p.1 p.2)
      (λ p. fold-roll-WireExpr (List ℕ) expr_step (WireExpr-F.OffsetCall p.0 p.1 p.2) ∙ ap (λ (t : List ℕ). 0x2f ∷ (method p.0 ++ expr p.1 ++ t)) (args_are p.2))
      (λ p. refl)

  lookup_case : IsCase (of_four (kind_at ranges.classes true) text_at inner (args_at inner) exprs.Lookup) (λ (p : WireType × (List ℕ) × WireExpr × (List WireExpr)). exprs.Lookup p.0 p.1 p.2 p.3) (λ p. Parts ((λ (p : WireType × (List ℕ) × WireExpr × (List WireExpr)). WireExpr-F.Lookup p.0 p.1 p.2 p.3) p)) 0x30 expr FitsCalls
  lookup_case = call_case (of_four (kind_at ranges.classes true) text_at inner (args_at inner) exprs.Lookup) (λ (p : WireType × (List ℕ) × WireExpr × (List WireExpr)). exprs.Lookup p.0 p.1 p.2 p.3) (λ (p : WireType × (List ℕ) × WireExpr × (List WireExpr)). kind p.0 ++ text p.1 ++ expr p.2 ++ (counted w8 expr) p.3)
      (λ (p : WireType × (List ℕ) × WireExpr × (List WireExpr)). WireExpr-F.Lookup p.0 p.1 p.2 p.3)
      (made_four (kind_at ranges.classes true) kind (FitsKind ranges.classes true) (kind_field ranges.classes true known.classes) text_at text FitsText text_field inner expr Inner field (args_at inner) (counted w8 expr) (FitsArgs Inner) args_field exprs.Lookup) 0x30 (omega arith)
      (λ p. rolls-Lookup p.0 p.1 p.2 p.3)
      (λ p. fold-roll-WireExpr (List ℕ) expr_step (WireExpr-F.Lookup p.0 p.1 p.2 p.3) ∙ ap (λ (t : List ℕ). 0x30 ∷ (kind p.0 ++ text p.1 ++ expr p.2 ++ t)) (args_are p.3))
      (λ p. refl)

  dispatch_case : IsCase (of_four (kind_at ranges.classes true) text_at inner (args_at inner) exprs.Dispatch) (λ (p : WireType × (List ℕ) × WireExpr × (List WireExpr)). exprs.Dispatch p.0 p.1 p.2 p.3) (λ p. Parts ((λ (p : WireType × (List ℕ) × WireExpr × (List WireExpr)). WireExpr-F.Dispatch p.0 p.1 p.2 p.3) p)) 0x31 expr FitsCalls
  dispatch_case = call_case (of_four (kind_at ranges.classes true) text_at inner (args_at inner) exprs.Dispatch) (λ (p : WireType × (List ℕ) × WireExpr × (List WireExpr)). exprs.Dispatch p.0 p.1 p.2 p.3) (λ (p : WireType × (List ℕ) × WireExpr × (List WireExpr)). kind p.0 ++ text p.1 ++ expr p.2 ++ (counted w8 expr) p.3)
      (λ (p : WireType × (List ℕ) × WireExpr × (List WireExpr)). WireExpr-F.Dispatch p.0 p.1 p.2 p.3)
      (made_four (kind_at ranges.classes true) kind (FitsKind ranges.classes true) (kind_field ranges.classes true known.classes) text_at text FitsText text_field inner expr Inner field (args_at inner) (counted w8 expr) (FitsArgs Inner) args_field exprs.Dispatch) 0x31 (omega arith)
      (λ p. rolls-Dispatch p.0 p.1 p.2 p.3)
      (λ p. fold-roll-WireExpr (List ℕ) expr_step (WireExpr-F.Dispatch p.0 p.1 p.2 p.3) ∙ ap (λ (t : List ℕ). 0x31 ∷ (kind p.0 ++ text p.1 ++ expr p.2 ++ t)) (args_are p.3))
      (λ p. refl)

  parent_case : IsCase (of_three (number_at w8) (method_at ranges) (args_at inner) exprs.ParentCall) (λ (p : ℕ × WireMethod × (List WireExpr)). exprs.ParentCall p.0 p.1 p.2) (λ p. Parts ((λ (p : ℕ × WireMethod × (List WireExpr)). WireExpr-F.ParentCall p.0 p.1 p.2) p)) 0x32 expr FitsCalls
  parent_case = call_case (of_three (number_at w8) (method_at ranges) (args_at inner) exprs.ParentCall) (λ (p : ℕ × WireMethod × (List WireExpr)). exprs.ParentCall p.0 p.1 p.2) (λ (p : ℕ × WireMethod × (List WireExpr)). (number w8) p.0 ++ method p.1 ++ (counted w8 expr) p.2)
      (λ (p : ℕ × WireMethod × (List WireExpr)). WireExpr-F.ParentCall p.0 p.1 p.2)
      (made_three (number_at w8) (number w8) (λ n. n < 2 ^ 8) byte_field (method_at ranges) method (FitsMethod ranges) (method_field ranges known) (args_at inner) (counted w8 expr) (FitsArgs Inner) args_field exprs.ParentCall) 0x32 (omega arith)
      (λ p. rolls-ParentCall p.0 p.1 p.2)
      (λ p. fold-roll-WireExpr (List ℕ) expr_step (WireExpr-F.ParentCall p.0 p.1 p.2) ∙ ap (λ (t : List ℕ). 0x32 ∷ ((number w8) p.0 ++ method p.1 ++ t)) (args_are p.2))
      (λ p. refl)

  parents_case : IsCase (of_two (method_at ranges) (args_at inner) exprs.ParentsCall) (λ (p : WireMethod × (List WireExpr)). exprs.ParentsCall p.0 p.1) (λ p. Parts ((λ (p : WireMethod × (List WireExpr)). WireExpr-F.ParentsCall p.0 p.1) p)) 0x33 expr FitsCalls
  parents_case = call_case (of_two (method_at ranges) (args_at inner) exprs.ParentsCall) (λ (p : WireMethod × (List WireExpr)). exprs.ParentsCall p.0 p.1) (λ (p : WireMethod × (List WireExpr)). method p.0 ++ (counted w8 expr) p.1)
      (λ (p : WireMethod × (List WireExpr)). WireExpr-F.ParentsCall p.0 p.1)
      (made_two (method_at ranges) method (FitsMethod ranges) (method_field ranges known) (args_at inner) (counted w8 expr) (FitsArgs Inner) args_field exprs.ParentsCall) 0x33 (omega arith)
      (λ p. rolls-ParentsCall p.0 p.1)
      (λ p. fold-roll-WireExpr (List ℕ) expr_step (WireExpr-F.ParentsCall p.0 p.1) ∙ ap (λ (t : List ℕ). 0x33 ∷ (method p.0 ++ t)) (args_are p.1))
      (λ p. refl)

  -- ---- by their tags

  call_takes : (bytes : List ℕ) → AreBytes bytes → (place : ℕ) (tag : Read ℕ) (r : Read WireExpr) → Stands bytes place (number w8 tag.value) tag.next → call_after ranges inner bytes place tag ≡ Ok r → Stands bytes place (expr r.value) r.next × FitsCalls r.value
  call_takes bytes all place tag r stands e =
      pick _ (eqb tag.value 0x2f) _ _ r e (offset_case.takes bytes all place tag r stands) (λ e.
      pick _ (eqb tag.value 0x30) _ _ r e (lookup_case.takes bytes all place tag r stands) (λ e.
      pick _ (eqb tag.value 0x31) _ _ r e (dispatch_case.takes bytes all place tag r stands) (λ e.
      pick _ (eqb tag.value 0x32) _ _ r e (parent_case.takes bytes all place tag r stands) (λ e.
      pick _ (eqb tag.value 0x33) _ _ r e (parents_case.takes bytes all place tag r stands) (λ e.
      absurd (let z = e in cc))))))

  expr_takes : (bytes : List ℕ) → AreBytes bytes → (place : ℕ) (tag : Read ℕ) (r : Read WireExpr) → Stands bytes place (number w8 tag.value) tag.next → expr_after ranges inner bytes place tag ≡ Ok r → Stands bytes place (expr r.value) r.next × FitsHere r.value
  expr_takes bytes all place tag r stands e =
      pick _ (eqb tag.value 0x20) _ _ r e (long_case.takes bytes all place tag r stands) (λ e.
      pick _ (eqb tag.value 0x21) _ _ r e (str_case.takes bytes all place tag r stands) (λ e.
      pick _ (eqb tag.value 0x22) _ _ r e (boolean_case.takes bytes all place tag r stands) (λ e.
      pick _ (eqb tag.value 0x23) _ _ r e (nil_case.takes bytes all place tag r stands) (λ e.
      pick _ (eqb tag.value 0x24) _ _ r e (local_case.takes bytes all place tag r stands) (λ e.
      pick _ (eqb tag.value 0x25) _ _ r e (me_case.takes bytes all place tag r stands) (λ e.
      pick _ (eqb tag.value 0x26) _ _ r e (variable_case.takes bytes all place tag r stands) (λ e.
      pick _ (eqb tag.value 0x29) _ _ r e (new_case.takes bytes all place tag r stands) (λ e.
      pick _ (eqb tag.value 0x2a) _ _ r e (class_case.takes bytes all place tag r stands) (λ e.
      pick _ (eqb tag.value 0x2b) _ _ r e (manager_case.takes bytes all place tag r stands) (λ e.
      pick _ (eqb tag.value 0x27) _ _ r e (unary_case.takes bytes all place tag r stands) (λ e.
      pick _ (eqb tag.value 0x2c) _ _ r e (cast_case.takes bytes all place tag r stands) (λ e.
      pick _ (eqb tag.value 0x2d) _ _ r e (isa_case.takes bytes all place tag r stands) (λ e.
      pick _ (eqb tag.value 0x2e) _ _ r e (proxy_case.takes bytes all place tag r stands) (λ e.
      pick _ (eqb tag.value 0x28) _ _ r e (binary_case.takes bytes all place tag r stands) (λ e.
      pick _ (eqb tag.value 0x34) _ _ r e (host_case.takes bytes all place tag r stands) (λ e.
      (let c = call_takes bytes all place tag r stands e in (c.0, c.1.0))))))))))))))))))

  call_again : (bytes : List ℕ) (place : ℕ) (v : WireExpr) (next : ℕ) → Stands bytes place (expr v) next → FitsCalls v → (number_at w8 bytes place >>= call_after ranges inner bytes place) ≡ done v next
  call_again bytes place v next h fits = by (out-WireExpr v) refl fits.0 fits.1
    where
      by : (layer : WireExpr-F WireExpr) → out-WireExpr v ≡ layer → Parts layer → IsTrue (calls layer) → (number_at w8 bytes place >>= call_after ranges inner bytes place) ≡ done v next
      by (WireExpr-F.Long a) is fits call = absurd (let z = call in cc)
      by (WireExpr-F.Str a) is fits call = absurd (let z = call in cc)
      by (WireExpr-F.Boolean a) is fits call = absurd (let z = call in cc)
      by WireExpr-F.Nil is fits call = absurd (let z = call in cc)
      by (WireExpr-F.Local a) is fits call = absurd (let z = call in cc)
      by WireExpr-F.Me is fits call = absurd (let z = call in cc)
      by (WireExpr-F.Variable a) is fits call = absurd (let z = call in cc)
      by (WireExpr-F.New a) is fits call = absurd (let z = call in cc)
      by (WireExpr-F.Class a) is fits call = absurd (let z = call in cc)
      by WireExpr-F.Manager is fits call = absurd (let z = call in cc)
      by (WireExpr-F.Unary a b) is fits call = absurd (let z = call in cc)
      by (WireExpr-F.Cast a b) is fits call = absurd (let z = call in cc)
      by (WireExpr-F.Isa a b) is fits call = absurd (let z = call in cc)
      by (WireExpr-F.Proxy a b) is fits call = absurd (let z = call in cc)
      by (WireExpr-F.Binary a b c) is fits call = absurd (let z = call in cc)
      by (WireExpr-F.Host a b c) is fits call = absurd (let z = call in cc)
      by (WireExpr-F.OffsetCall a b c) is fits call = offset_case.again bytes place (a, b, c) v next (value_is v (WireExpr-F.OffsetCall a b c) (exprs.OffsetCall a b c) is (rolls-OffsetCall a b c)) h fits (call_after ranges inner bytes place) refl
      by (WireExpr-F.Lookup a b c d) is fits call = lookup_case.again bytes place (a, b, c, d) v next (value_is v (WireExpr-F.Lookup a b c d) (exprs.Lookup a b c d) is (rolls-Lookup a b c d)) h fits (call_after ranges inner bytes place) refl
      by (WireExpr-F.Dispatch a b c d) is fits call = dispatch_case.again bytes place (a, b, c, d) v next (value_is v (WireExpr-F.Dispatch a b c d) (exprs.Dispatch a b c d) is (rolls-Dispatch a b c d)) h fits (call_after ranges inner bytes place) refl
      by (WireExpr-F.ParentCall a b c) is fits call = parent_case.again bytes place (a, b, c) v next (value_is v (WireExpr-F.ParentCall a b c) (exprs.ParentCall a b c) is (rolls-ParentCall a b c)) h fits (call_after ranges inner bytes place) refl
      by (WireExpr-F.ParentsCall a b) is fits call = parents_case.again bytes place (a, b) v next (value_is v (WireExpr-F.ParentsCall a b) (exprs.ParentsCall a b) is (rolls-ParentsCall a b)) h fits (call_after ranges inner bytes place) refl

  expr_again : (bytes : List ℕ) (place : ℕ) (v : WireExpr) (next : ℕ) → Stands bytes place (expr v) next → FitsHere v → (number_at w8 bytes place >>= expr_after ranges inner bytes place) ≡ done v next
  expr_again bytes place v next h fits = by (out-WireExpr v) refl fits
    where
      by : (layer : WireExpr-F WireExpr) → out-WireExpr v ≡ layer → Parts layer → (number_at w8 bytes place >>= expr_after ranges inner bytes place) ≡ done v next
      by (WireExpr-F.Long a) is fits = long_case.again bytes place a v next (value_is v (WireExpr-F.Long a) (exprs.Long a) is (rolls-Long a)) h fits (expr_after ranges inner bytes place) refl
      by (WireExpr-F.Str a) is fits = str_case.again bytes place a v next (value_is v (WireExpr-F.Str a) (exprs.Str a) is (rolls-Str a)) h fits (expr_after ranges inner bytes place) refl
      by (WireExpr-F.Boolean a) is fits = boolean_case.again bytes place a v next (value_is v (WireExpr-F.Boolean a) (exprs.Boolean a) is (rolls-Boolean a)) h fits (expr_after ranges inner bytes place) refl
      by WireExpr-F.Nil is fits = nil_case.again bytes place tt v next (value_is v WireExpr-F.Nil exprs.Nil is rolls-Nil) h fits (expr_after ranges inner bytes place) refl
      by (WireExpr-F.Local a) is fits = local_case.again bytes place a v next (value_is v (WireExpr-F.Local a) (exprs.Local a) is (rolls-Local a)) h fits (expr_after ranges inner bytes place) refl
      by WireExpr-F.Me is fits = me_case.again bytes place tt v next (value_is v WireExpr-F.Me exprs.Me is rolls-Me) h fits (expr_after ranges inner bytes place) refl
      by (WireExpr-F.Variable a) is fits = variable_case.again bytes place a v next (value_is v (WireExpr-F.Variable a) (exprs.Variable a) is (rolls-Variable a)) h fits (expr_after ranges inner bytes place) refl
      by (WireExpr-F.New a) is fits = new_case.again bytes place a v next (value_is v (WireExpr-F.New a) (exprs.New a) is (rolls-New a)) h fits (expr_after ranges inner bytes place) refl
      by (WireExpr-F.Class a) is fits = class_case.again bytes place a v next (value_is v (WireExpr-F.Class a) (exprs.Class a) is (rolls-Class a)) h fits (expr_after ranges inner bytes place) refl
      by WireExpr-F.Manager is fits = manager_case.again bytes place tt v next (value_is v WireExpr-F.Manager exprs.Manager is rolls-Manager) h fits (expr_after ranges inner bytes place) refl
      by (WireExpr-F.Unary a b) is fits = unary_case.again bytes place (a, b) v next (value_is v (WireExpr-F.Unary a b) (exprs.Unary a b) is (rolls-Unary a b)) h fits (expr_after ranges inner bytes place) refl
      by (WireExpr-F.Cast a b) is fits = cast_case.again bytes place (a, b) v next (value_is v (WireExpr-F.Cast a b) (exprs.Cast a b) is (rolls-Cast a b)) h fits (expr_after ranges inner bytes place) refl
      by (WireExpr-F.Isa a b) is fits = isa_case.again bytes place (a, b) v next (value_is v (WireExpr-F.Isa a b) (exprs.Isa a b) is (rolls-Isa a b)) h fits (expr_after ranges inner bytes place) refl
      by (WireExpr-F.Proxy a b) is fits = proxy_case.again bytes place (a, b) v next (value_is v (WireExpr-F.Proxy a b) (exprs.Proxy a b) is (rolls-Proxy a b)) h fits (expr_after ranges inner bytes place) refl
      by (WireExpr-F.Binary a b c) is fits = binary_case.again bytes place (a, b, c) v next (value_is v (WireExpr-F.Binary a b c) (exprs.Binary a b c) is (rolls-Binary a b c)) h fits (expr_after ranges inner bytes place) refl
      by (WireExpr-F.Host a b c) is fits = host_case.again bytes place (a, b, c) v next (value_is v (WireExpr-F.Host a b c) (exprs.Host a b c) is (rolls-Host a b c)) h fits (expr_after ranges inner bytes place) refl
      by (WireExpr-F.OffsetCall a b c) is fits = offset_case.again bytes place (a, b, c) v next (value_is v (WireExpr-F.OffsetCall a b c) (exprs.OffsetCall a b c) is (rolls-OffsetCall a b c)) h fits (expr_after ranges inner bytes place) refl
      by (WireExpr-F.Lookup a b c d) is fits = lookup_case.again bytes place (a, b, c, d) v next (value_is v (WireExpr-F.Lookup a b c d) (exprs.Lookup a b c d) is (rolls-Lookup a b c d)) h fits (expr_after ranges inner bytes place) refl
      by (WireExpr-F.Dispatch a b c d) is fits = dispatch_case.again bytes place (a, b, c, d) v next (value_is v (WireExpr-F.Dispatch a b c d) (exprs.Dispatch a b c d) is (rolls-Dispatch a b c d)) h fits (expr_after ranges inner bytes place) refl
      by (WireExpr-F.ParentCall a b c) is fits = parent_case.again bytes place (a, b, c) v next (value_is v (WireExpr-F.ParentCall a b c) (exprs.ParentCall a b c) is (rolls-ParentCall a b c)) h fits (expr_after ranges inner bytes place) refl
      by (WireExpr-F.ParentsCall a b) is fits = parents_case.again bytes place (a, b) v next (value_is v (WireExpr-F.ParentsCall a b) (exprs.ParentsCall a b) is (rolls-ParentsCall a b)) h fits (expr_after ranges inner bytes place) refl

-- ---- where so many levels are left

-- nothing is read where no level is left
pub none_deep : {A : Type 0} (is_tag : ℕ → Bool) (bytes : List ℕ) (place : ℕ) (r : Read A) → too_deep is_tag bytes place ≡ Ok r → ⊥
none_deep {A} is_tag bytes place r e = by (number_at w8 bytes place) e
  where
    by : (read : Result (Read ℕ) ImageFault) → (read >>= λ tag. Err (cond (is_tag tag.value) (faults.Nesting place) (faults.Tag place))) ≡ Ok r → ⊥
    by (Ok tag) e = cc
    by (Err fault) e = cc

module _ (ranges : Ranges) (known : AreShort ranges) where
  pub expr_field : (left : ℕ) → IsField (expr_at left ranges) expr (FitsExpr left ranges.classes (FitsMethod ranges))
  unfolding expr_at FitsExpr
  expr_field zero = record {
    takes = λ bytes all place r le e. absurd (none_deep is_expr_tag bytes place r e);
    again = λ bytes place v next h fits. absurd fits;
  }
  expr_field (suc left) = record {
    takes = λ bytes all place r le e. let t = took (number_at w8) (number w8) (λ n. n < 2 ^ 8) byte_field bytes all place le (expr_after ranges (expr_at left ranges) bytes place) r e in expr_takes ranges known (expr_at left ranges) (FitsExpr left ranges.classes (FitsMethod ranges)) (expr_field left) bytes all place t.0 r t.1 t.3;
    again = expr_again ranges known (expr_at left ranges) (FitsExpr left ranges.classes (FitsMethod ranges)) (expr_field left);
  }

  pub call_field : (left : ℕ) → IsField (call_at left ranges) expr (FitsCall left ranges.classes (FitsMethod ranges))
  unfolding call_at FitsExpr
  call_field zero = record {
    takes = λ bytes all place r le e. absurd (none_deep is_call_tag bytes place r e);
    again = λ bytes place v next h fits. absurd fits.0;
  }
  call_field (suc left) = record {
    takes = λ bytes all place r le e. let t = took (number_at w8) (number w8) (λ n. n < 2 ^ 8) byte_field bytes all place le (call_after ranges (expr_at left ranges) bytes place) r e in call_takes ranges known (expr_at left ranges) (FitsExpr left ranges.classes (FitsMethod ranges)) (expr_field left) bytes all place t.0 r t.1 t.3;
    again = call_again ranges known (expr_at left ranges) (FitsExpr left ranges.classes (FitsMethod ranges)) (expr_field left);
  }
