-- The texts of the generator: of two releases of the classes G0, G1, G2 and so on, and of a client that uses each of them.
use Rattle.std.specs.Prelude.{ℕ, ◌-◌, ◌/◌, ◌%◌, ◌==◌, ◌||◌, Bool, if◌then◌else◌, List, [], ◌∷◌, ◌++◌, flat_map, codes}
use Rattle.std.specs.Fmt.{decimal}
use Rattle.std.specs.List.{range_with_len}
use Rattle.som_generator.specs.declared.edition.Edition.{Edition}
use Rattle.som_generator.specs.declared.edition.Edition.TheVariants.{First, Second}

-- the number of a release, which its texts are named by
abbrev pub release_number : Edition → List ℕ
release_number First = codes "1"
release_number Second = codes "2"

-- ---- words

-- a word that ends with a number
abbrev pub numbered : List ℕ → ℕ → List ℕ
numbered word k = word ++ decimal k

-- the class of a number
abbrev pub class_name : ℕ → List ℕ
class_name k = numbered (codes "G") k

-- the method that the class of a number introduces in both releases
abbrev pub own_method : ℕ → List ℕ
own_method k = numbered (codes "m") k

-- the method that it introduces in the second release alone
abbrev pub extra_method : ℕ → List ℕ
extra_method k = numbered (codes "extra") k

-- this, where a test holds, and else nothing
abbrev pub only_if : Bool → List ℕ → List ℕ
only_if test text = if test then text else []

-- this in the second release, and nothing in the first
abbrev pub only_second : Edition → List ℕ → List ℕ
only_second First text = []
only_second Second text = text

abbrev pub is_odd : ℕ → Bool
is_odd k = k % 2 == 1

-- which classes have a body of their own for `tag`: G0, and those of odd numbers
abbrev pub has_tag : ℕ → Bool
has_tag k = (k == 0) || is_odd k

-- ---- interfaces, one a line

-- what stands above G0
abbrev pub root : Edition → List ℕ
root First = codes "SOMObject"
root Second = codes "Top"

-- the parent of the class of a number
abbrev pub parent : Edition → ℕ → List ℕ
parent e k = if k == 0 then root e else class_name ((k - 1) / 2)

-- a method that answers a number
abbrev pub declared : List ℕ → List ℕ
declared name = codes " long " ++ name ++ codes "();"

-- in the first release G0 introduces `tag`
abbrev pub tag_declared : Edition → ℕ → List ℕ
tag_declared First k = only_if (k == 0) (declared (codes "tag"))
tag_declared Second k = []

-- the class's own `tag` overrides one that is introduced above it
abbrev pub tag_overridden : Edition → ℕ → List ℕ
tag_overridden First k = only_if (is_odd k) (codes " tag: override;")
tag_overridden Second k = only_if (has_tag k) (codes " tag: override;")

-- the release order: what it introduces, and in G0 `tag` at the second place in both releases
abbrev pub release_order : Edition → ℕ → List ℕ
release_order e k = own_method k ++ only_if (k == 0) (codes ", tag") ++ only_second e (codes ", " ++ extra_method k)

-- the methods that the class of a number introduces
abbrev pub methods : Edition → ℕ → List ℕ
methods e k = declared (own_method k) ++ tag_declared e k ++ only_second e (declared (extra_method k))

-- its implementation section
abbrev pub implementation : Edition → ℕ → List ℕ
implementation e k = codes " implementation { releaseorder: " ++ release_order e k ++ codes ";" ++ tag_overridden e k ++ codes " };"

-- its interface
abbrev pub interface_line : Edition → ℕ → List ℕ
interface_line e k = codes "interface " ++ class_name k ++ codes " : " ++ parent e k ++ codes " {" ++ methods e k ++ implementation e k ++ codes " };" ++ 10 ∷ []

-- the class above G0 that the second release has first; it introduces `tag`
abbrev pub top_interface : List ℕ
top_interface = codes "interface Top : SOMObject { long tag(); };" ++ 10 ∷ []

-- the numbers from 0 on, so many
abbrev pub numbers : ℕ → List ℕ
numbers n = range_with_len 0 n

-- the interfaces of a release of so many classes
abbrev pub interfaces_text : Edition → ℕ → List ℕ
interfaces_text e n = only_second e top_interface ++ flat_map (interface_line e) (numbers n)

-- ---- bodies, one a line

-- the body of a class's method that returns a number
abbrev pub body_line : List ℕ → List ℕ → List ℕ → List ℕ
body_line class method number = class ++ codes "::" ++ method ++ codes "() { return " ++ number ++ codes "; }" ++ 10 ∷ []

-- a method of the class of a number returns that number
abbrev pub returns_number : ℕ → List ℕ → List ℕ
returns_number k method = body_line (class_name k) method (decimal k)

-- the bodies of the class of a number
abbrev pub body_lines : Edition → ℕ → List ℕ
body_lines e k = returns_number k (own_method k) ++ only_if (has_tag k) (returns_number k (codes "tag")) ++ only_second e (returns_number k (extra_method k))

-- that of the class above G0
abbrev pub top_body : List ℕ
top_body = body_line (codes "Top") (codes "tag") (codes "-1")

-- the bodies of a release of so many classes
abbrev pub bodies_text : Edition → ℕ → List ℕ
bodies_text e n = only_second e top_body ++ flat_map (body_lines e) (numbers n)

-- ---- the client's main, a statement a line

-- what a method of a new object of a class answers is added to the sum, which wraps
abbrev pub adding_line : List ℕ → List ℕ → List ℕ
adding_line class method = codes "  s = host wrapadd(s, (new " ++ class ++ codes ")." ++ method ++ codes "());" ++ 10 ∷ []

-- the two methods of the class of a number
abbrev pub adding_lines : ℕ → List ℕ
adding_lines k = adding_line (class_name k) (own_method k) ++ adding_line (class_name k) (codes "tag")

-- what stands before these statements, and what after them
abbrev pub main_front : List ℕ
main_front = codes "main {" ++ 10 ∷ [] ++ codes "  var s : long = 0;" ++ 10 ∷ []

abbrev pub main_back : List ℕ
main_back = codes "  print s;" ++ 10 ∷ [] ++ codes "}" ++ 10 ∷ []

-- the main that adds up what the methods of so many classes answer, and prints the sum
abbrev pub main_text : ℕ → List ℕ
main_text n = main_front ++ flat_map adding_lines (numbers n) ++ main_back
