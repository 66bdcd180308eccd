-- The texts of three and of five classes, written out: what the definitions of texts come to there.
use Rattle.std.specs.Prelude.{ℕ, List, [], ◌∷◌, ◌++◌, codes}

-- each line with its end
abbrev lines : List (List ℕ) → List ℕ
lines [] = []
lines (l ∷ ls) = l ++ 10 ∷ lines ls

abbrev pub first_interfaces : List ℕ
first_interfaces = lines (
    codes "interface G0 : SOMObject { long m0(); long tag(); implementation { releaseorder: m0, tag; }; };"
    ∷ codes "interface G1 : G0 { long m1(); implementation { releaseorder: m1; tag: override; }; };"
    ∷ codes "interface G2 : G0 { long m2(); implementation { releaseorder: m2; }; };"
    ∷ [])

abbrev pub first_bodies : List ℕ
first_bodies = lines (
    codes "G0::m0() { return 0; }"
    ∷ codes "G0::tag() { return 0; }"
    ∷ codes "G1::m1() { return 1; }"
    ∷ codes "G1::tag() { return 1; }"
    ∷ codes "G2::m2() { return 2; }"
    ∷ [])

abbrev pub second_interfaces : List ℕ
second_interfaces = lines (
    codes "interface Top : SOMObject { long tag(); };"
    ∷ codes "interface G0 : Top { long m0(); long extra0(); implementation { releaseorder: m0, tag, extra0; tag: override; }; };"
    ∷ codes "interface G1 : G0 { long m1(); long extra1(); implementation { releaseorder: m1, extra1; tag: override; }; };"
    ∷ codes "interface G2 : G0 { long m2(); long extra2(); implementation { releaseorder: m2, extra2; }; };"
    ∷ [])

abbrev pub second_bodies : List ℕ
second_bodies = lines (
    codes "Top::tag() { return -1; }"
    ∷ codes "G0::m0() { return 0; }"
    ∷ codes "G0::tag() { return 0; }"
    ∷ codes "G0::extra0() { return 0; }"
    ∷ codes "G1::m1() { return 1; }"
    ∷ codes "G1::tag() { return 1; }"
    ∷ codes "G1::extra1() { return 1; }"
    ∷ codes "G2::m2() { return 2; }"
    ∷ codes "G2::extra2() { return 2; }"
    ∷ [])

abbrev pub client_main : List ℕ
client_main = lines (
    codes "main {"
    ∷ codes "  var s : long = 0;"
    ∷ codes "  s = host wrapadd(s, (new G0).m0());"
    ∷ codes "  s = host wrapadd(s, (new G0).tag());"
    ∷ codes "  s = host wrapadd(s, (new G1).m1());"
    ∷ codes "  s = host wrapadd(s, (new G1).tag());"
    ∷ codes "  s = host wrapadd(s, (new G2).m2());"
    ∷ codes "  s = host wrapadd(s, (new G2).tag());"
    ∷ codes "  print s;"
    ∷ codes "}"
    ∷ [])

-- ---- five classes: G3 and G4 stand below G1, and G3 has a body of its own for `tag`

abbrev pub first_interfaces_of_five : List ℕ
first_interfaces_of_five = first_interfaces ++ lines (
    codes "interface G3 : G1 { long m3(); implementation { releaseorder: m3; tag: override; }; };"
    ∷ codes "interface G4 : G1 { long m4(); implementation { releaseorder: m4; }; };"
    ∷ [])

abbrev pub first_bodies_of_five : List ℕ
first_bodies_of_five = first_bodies ++ lines (
    codes "G3::m3() { return 3; }"
    ∷ codes "G3::tag() { return 3; }"
    ∷ codes "G4::m4() { return 4; }"
    ∷ [])

abbrev pub second_interfaces_of_five : List ℕ
second_interfaces_of_five = second_interfaces ++ lines (
    codes "interface G3 : G1 { long m3(); long extra3(); implementation { releaseorder: m3, extra3; tag: override; }; };"
    ∷ codes "interface G4 : G1 { long m4(); long extra4(); implementation { releaseorder: m4, extra4; }; };"
    ∷ [])

abbrev pub second_bodies_of_five : List ℕ
second_bodies_of_five = second_bodies ++ lines (
    codes "G3::m3() { return 3; }"
    ∷ codes "G3::tag() { return 3; }"
    ∷ codes "G3::extra3() { return 3; }"
    ∷ codes "G4::m4() { return 4; }"
    ∷ codes "G4::extra4() { return 4; }"
    ∷ [])

abbrev pub client_main_of_five : List ℕ
client_main_of_five = lines (
    codes "main {"
    ∷ codes "  var s : long = 0;"
    ∷ codes "  s = host wrapadd(s, (new G0).m0());"
    ∷ codes "  s = host wrapadd(s, (new G0).tag());"
    ∷ codes "  s = host wrapadd(s, (new G1).m1());"
    ∷ codes "  s = host wrapadd(s, (new G1).tag());"
    ∷ codes "  s = host wrapadd(s, (new G2).m2());"
    ∷ codes "  s = host wrapadd(s, (new G2).tag());"
    ∷ codes "  s = host wrapadd(s, (new G3).m3());"
    ∷ codes "  s = host wrapadd(s, (new G3).tag());"
    ∷ codes "  s = host wrapadd(s, (new G4).m4());"
    ∷ codes "  s = host wrapadd(s, (new G4).tag());"
    ∷ codes "  print s;"
    ∷ codes "}"
    ∷ [])
