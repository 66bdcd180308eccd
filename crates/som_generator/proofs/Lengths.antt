-- How many bytes the texts have at most.
use Rattle.std.proofs.Common.{◌≡◌, ℕ, zero, suc, ◌+◌, ◌-◌, ◌*◌, ◌/◌, ◌==◌, ◌<◌, ◌≤◌, if◌then◌else◌, Bool, true, false, List, [], ◌∷◌, ◌++◌, flat_map, length, refl, sym, ap, subst, ◌∙◌, arith, codes}
use Rattle.std.specs.Fmt.{decimal}
use Rattle.std.proofs.lemmas.Fmt.{length-decimal-le}
use Rattle.std.proofs.lemmas.List.{append-nil, length-append}
use Rattle.std.proofs.lemmas.List.Concat.{flat_map-append}
use Rattle.som_generator.specs.declared.edition.Edition.{Edition}
use Rattle.som_generator.specs.declared.edition.Edition.TheVariants.{First, Second}
use Rattle.som_generator.specs.declared.limits.TheConstants.{MAX_CLASSES}
use Rattle.som_generator.specs.Generated.{adding_line, adding_lines, bodies_text, body_line, body_lines, class_name, declared, extra_method, has_tag, implementation, interface_line, interfaces_text, is_odd, main_back, main_front, main_text, methods, numbers, only_if, only_second, own_method, parent, release_order, returns_number, root, tag_declared, tag_overridden, top_body, top_interface}
use Rattle.som_generator.proofs.Pieces.{numbers_more}

-- ---- parts

only_if_short : (b : Bool) (t : List ℕ) → length (only_if b t) ≤ length t
only_if_short true t = omega arith
only_if_short false t = omega arith

only_second_short : (e : Edition) (t : List ℕ) → length (only_second e t) ≤ length t
only_second_short First t = omega arith
only_second_short Second t = omega arith

digits : (k : ℕ) → k < MAX_CLASSES → length (decimal k) ≤ 4
digits k lt = length-decimal-le 4 k (omega arith) (omega (arith, lt)) (omega (arith, lt))

class_short : (k : ℕ) → length (decimal k) ≤ 4 → length (class_name k) ≤ 5
class_short k few = omega (arith, length-append (codes "G") (decimal k), few)

own_short : (k : ℕ) → length (decimal k) ≤ 4 → length (own_method k) ≤ 5
own_short k few = omega (arith, length-append (codes "m") (decimal k), few)

extra_short : (k : ℕ) → length (decimal k) ≤ 4 → length (extra_method k) ≤ 9
extra_short k few = omega (arith, length-append (codes "extra") (decimal k), few)

three : (a b c : List ℕ) → length (a ++ b ++ c) ≡ length a + length b + length c
three a b c = simp length-append

six : (a b c d e f : List ℕ) → length (a ++ b ++ c ++ d ++ e ++ f) ≡ length a + length b + length c + length d + length e + length f
six a b c d e f = simp length-append

seven : (a b c d e f g : List ℕ) → length (a ++ b ++ c ++ d ++ e ++ f ++ g) ≡ length a + length b + length c + length d + length e + length f + length g
seven a b c d e f g = simp length-append

-- ---- interfaces

root_short : (e : Edition) → length (root e) ≤ 9
root_short First = omega arith
root_short Second = omega arith

half : (k : ℕ) → k < MAX_CLASSES → length (class_name ((k - 1) / 2)) ≤ 5
half k lt = class_short ((k - 1) / 2) (digits ((k - 1) / 2) (omega (arith, lt)))

chosen : (b : Bool) (s t : List ℕ) (n : ℕ) → length s ≤ n → length t ≤ n → length (if b then s else t) ≤ n
chosen true s t n p q = p
chosen false s t n p q = q

parent_short : (e : Edition) (k : ℕ) → k < MAX_CLASSES → length (parent e k) ≤ 9
parent_short e k lt = chosen (k == 0) (root e) (class_name ((k - 1) / 2)) 9 (root_short e) (let h = half k lt in omega (arith, h))

declared_short : (name : List ℕ) (n : ℕ) → length name ≤ n → length (declared name) ≤ 9 + n
declared_short name n le = omega (arith, three (codes " long ") name (codes "();"), le)

tag_declared_short : (e : Edition) (k : ℕ) → length (tag_declared e k) ≤ 12
tag_declared_short First k = omega (arith, only_if_short (k == 0) (declared (codes "tag")))
tag_declared_short Second k = omega arith

tag_overridden_short : (e : Edition) (k : ℕ) → length (tag_overridden e k) ≤ 15
tag_overridden_short First k = omega (arith, only_if_short (is_odd k) (codes " tag: override;"))
tag_overridden_short Second k = omega (arith, only_if_short (has_tag k) (codes " tag: override;"))

order_short : (e : Edition) (k : ℕ) → length (decimal k) ≤ 4 → length (release_order e k) ≤ 21
order_short e k few =
    omega (
      arith,
      three (own_method k) (only_if (k == 0) (codes ", tag")) (only_second e (codes ", " ++ extra_method k)),
      own_short k few,
      only_if_short (k == 0) (codes ", tag"),
      only_second_short e (codes ", " ++ extra_method k),
      length-append (codes ", ") (extra_method k),
      extra_short k few,
    )

methods_short : (e : Edition) (k : ℕ) → length (decimal k) ≤ 4 → length (methods e k) ≤ 44
methods_short e k few =
    omega (
      arith,
      three (declared (own_method k)) (tag_declared e k) (only_second e (declared (extra_method k))),
      declared_short (own_method k) 5 (own_short k few),
      tag_declared_short e k,
      only_second_short e (declared (extra_method k)),
      declared_short (extra_method k) 9 (extra_short k few),
    )

five : (a b c d e : List ℕ) → length (a ++ b ++ c ++ d ++ e) ≡ length a + length b + length c + length d + length e
five a b c d e = simp length-append

implementation_short : (e : Edition) (k : ℕ) → length (decimal k) ≤ 4 → length (implementation e k) ≤ 80
implementation_short e k few =
    omega (arith, five (codes " implementation { releaseorder: ") (release_order e k) (codes ";") (tag_overridden e k) (codes " };"), order_short e k few, tag_overridden_short e k)

nine : (a b c d e f g h i : List ℕ) → length (a ++ b ++ c ++ d ++ e ++ f ++ g ++ h ++ i) ≡ length a + length b + length c + length d + length e + length f + length g + length h + length i
nine a b c d e f g h i = simp length-append

interface_short : (e : Edition) (k : ℕ) → k < MAX_CLASSES → length (interface_line e k) ≤ 200
interface_short e k lt =
    let few = digits k lt in
    omega (
      arith,
      nine (codes "interface ") (class_name k) (codes " : ") (parent e k) (codes " {") (methods e k) (implementation e k) (codes " };") (10 ∷ []),
      class_short k few,
      parent_short e k lt,
      methods_short e k few,
      implementation_short e k few,
    )

-- ---- bodies

body_short : (class method number : List ℕ) → length class ≤ 5 → length method ≤ 9 → length number ≤ 4 → length (body_line class method number) ≤ 60
body_short class method number c m n = omega (arith, seven class (codes "::") method (codes "() { return ") number (codes "; }") (10 ∷ []), c, m, n)

bodies_short : (e : Edition) (k : ℕ) → k < MAX_CLASSES → length (body_lines e k) ≤ 200
bodies_short e k lt =
    let few = digits k lt in
    let class = class_short k few in
    omega (
      arith,
      three (returns_number k (own_method k)) (only_if (has_tag k) (returns_number k (codes "tag"))) (only_second e (returns_number k (extra_method k))),
      body_short (class_name k) (own_method k) (decimal k) class (let m = own_short k few in omega (arith, m)) few,
      only_if_short (has_tag k) (returns_number k (codes "tag")),
      body_short (class_name k) (codes "tag") (decimal k) class (omega arith) few,
      only_second_short e (returns_number k (extra_method k)),
      body_short (class_name k) (extra_method k) (decimal k) class (extra_short k few) few,
    )

-- ---- the client's main

adding_short : (class method : List ℕ) → length class ≤ 5 → length method ≤ 5 → length (adding_line class method) ≤ 60
adding_short class method c m = omega (arith, six (codes "  s = host wrapadd(s, (new ") class (codes ").") method (codes "());") (10 ∷ []), c, m)

calls_short : (k : ℕ) → k < MAX_CLASSES → length (adding_lines k) ≤ 200
calls_short k lt =
    let few = digits k lt in
    let class = class_short k few in
    omega (
      arith,
      length-append (adding_line (class_name k) (own_method k)) (adding_line (class_name k) (codes "tag")),
      adding_short (class_name k) (own_method k) class (own_short k few),
      adding_short (class_name k) (codes "tag") class (omega arith),
    )

-- ---- whole texts

-- at most so many bytes for each number
lines_short : (line : ℕ → List ℕ) → ((k : ℕ) → k < MAX_CLASSES → length (line k) ≤ 200) → (n : ℕ) → n ≤ MAX_CLASSES → length (flat_map line (numbers n)) ≤ 200 * n
lines_short line each zero le = omega arith
lines_short line each (suc n) le =
    let split : flat_map line (numbers (n + 1)) ≡ flat_map line (numbers n) ++ (line n ++ []) = ap (flat_map line) (numbers_more n) ∙ flat_map-append line (numbers n) (n ∷ []) in
    let long : length (flat_map line (numbers (suc n))) ≡ length (flat_map line (numbers n)) + length (line n) = ap (λ (m : ℕ). length (flat_map line (numbers m))) (let one : suc n ≡ n + 1 = omega arith in one) ∙ ap length split ∙ simp (length-append, append-nil) in
    let before = lines_short line each n (omega (arith, le)) in
    let here = each n (omega (arith, le)) in
    omega (arith, long, before, here)

pub interfaces_length : (e : Edition) (n : ℕ) → n ≤ MAX_CLASSES → length (interfaces_text e n) ≤ 200 * n + 60
interfaces_length e n le =
    let lines = lines_short (interface_line e) (interface_short e) n le in
    omega (arith, length-append (only_second e top_interface) (flat_map (interface_line e) (numbers n)), only_second_short e top_interface, lines)

pub bodies_length : (e : Edition) (n : ℕ) → n ≤ MAX_CLASSES → length (bodies_text e n) ≤ 200 * n + 60
bodies_length e n le =
    let lines = lines_short (body_lines e) (bodies_short e) n le in
    omega (arith, length-append (only_second e top_body) (flat_map (body_lines e) (numbers n)), only_second_short e top_body, lines)

pub main_length : (n : ℕ) → n ≤ MAX_CLASSES → length (main_text n) ≤ 200 * n + 60
main_length n le =
    let lines = lines_short adding_lines calls_short n le in
    omega (arith, three main_front (flat_map adding_lines (numbers n)) main_back, lines)
