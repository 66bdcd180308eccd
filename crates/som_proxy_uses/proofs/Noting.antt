-- What the proxies of a block, a class and a run come to, part by part.
use Rattle.std.proofs.Common.{◌≡◌, List, [], ◌∷◌, ◌++◌, map, flat_map, Result, Ok, Err, OnOk, refl, sym, ap, ◌∙◌, append-nil, append_assoc}
use Rattle.std.proofs.lemmas.Grind.{flat_map-append}
use Rattle.som_model.specs.declared.key.ClassKey.{ClassKey}
use Rattle.som_model.specs.declared.syntax.Stmt.{Stmt}
use Rattle.som_model.specs.declared.syntax.Block.{Block, fold-roll-Block}
use Rattle.som_model.specs.declared.class.Body.{Body}
use Rattle.som_model.specs.declared.class.Body.TheVariants as bodies
use Rattle.som_model.specs.declared.class.Override.{Override}
use Rattle.som_model.specs.declared.class.ClassDecl.{ClassDecl}
use Rattle.som_model.specs.Lists.{joined}
use Rattle.som_model.specs.Class.{Class}
use Rattle.som_model.specs.Made.{blocks_of, blocks_of_class, proxies_in}
use Rattle.som_proxy_uses.specs.Forms.{block_proxies_step, body_proxies, override_proxies, stmt_proxies, stmt_proxies_step}
use Rattle.som_proxy_uses.specs.Proxied.{declarations, decl_proxies}

-- a block names what its statements name
pub block_is : (ss : List Stmt) → proxies_in (record { statements = ss }) ≡ joined (map stmt_proxies ss)
block_is ss = fold-roll-Block (List ClassKey) (List ClassKey) stmt_proxies_step block_proxies_step (record { statements = ss })

abbrev block_in : Body → List Block
block_in (bodies.User b) = b ∷ []
block_in (bodies.Get n) = []
block_in (bodies.Set n) = []

bodies_are : (bs : List Body) → flat_map proxies_in (flat_map block_in bs) ≡ flat_map body_proxies bs
bodies_are [] = refl
bodies_are (bodies.User b ∷ bs) = ap (λ z. proxies_in b ++ z) (bodies_are bs)
bodies_are (bodies.Get n ∷ bs) = bodies_are bs
bodies_are (bodies.Set n ∷ bs) = bodies_are bs

overrides_are : (os : List Override) → flat_map proxies_in (map (λ o. o.block) os) ≡ flat_map override_proxies os
overrides_are [] = refl
overrides_are (o ∷ os) = ap (λ z. proxies_in o.block ++ z) (overrides_are os)

-- a class names what its bodies and its overrides name
pub class_is : (d : ClassDecl) → decl_proxies d ≡ flat_map body_proxies d.bodies ++ flat_map override_proxies d.overrides
class_is d =
    flat_map-append proxies_in (flat_map block_in d.bodies) (map (λ o. o.block) d.overrides)
    ∙ ap (λ z. z ++ flat_map proxies_in (map (λ o. o.block) d.overrides)) (bodies_are d.bodies)
    ∙ ap (λ z. flat_map body_proxies d.bodies ++ z) (overrides_are d.overrides)

classes_are : (cs : List Class) → flat_map proxies_in (flat_map blocks_of_class cs) ≡ flat_map decl_proxies (declarations cs)
classes_are [] = refl
classes_are (c ∷ cs) = flat_map-append proxies_in (blocks_of_class c) (flat_map blocks_of_class cs) ∙ ap (λ z. decl_proxies c.decl ++ z) (classes_are cs)

-- the blocks of a run name what the classes and then main name
pub run_is : (cs : List Class) (main : Block) → flat_map proxies_in (blocks_of cs main) ≡ flat_map decl_proxies (declarations cs) ++ proxies_in main
run_is cs main =
    flat_map-append proxies_in (flat_map blocks_of_class cs) (main ∷ [])
    ∙ ap (λ z. flat_map proxies_in (flat_map blocks_of_class cs) ++ z) (append-nil (proxies_in main))
    ∙ ap (λ z. z ++ proxies_in main) (classes_are cs)

pub on_ok : {T E P Q : Type 0} (r : Result T E) → OnOk r P → (P → Q) → OnOk r Q
on_ok (Ok x) h f = f h
on_ok (Err e) h f = tt

-- after the bodies and then the overrides of a class
pub class_noted : (d : ClassDecl) (bs : List Body) (os : List Override) (before then all : List ClassKey) → bs ≡ d.bodies → os ≡ d.overrides
    → then ≡ before ++ flat_map body_proxies bs → all ≡ then ++ flat_map override_proxies os → all ≡ before ++ decl_proxies d
class_noted d bs os before then all e f g h =
    h ∙ ap (λ z. then ++ flat_map override_proxies z) f ∙ ap (λ z. z ++ flat_map override_proxies d.overrides) (g ∙ ap (λ z. before ++ flat_map body_proxies z) e)
    ∙ append_assoc before (flat_map body_proxies d.bodies) (flat_map override_proxies d.overrides) ∙ ap (λ z. before ++ z) (sym (class_is d))

-- after all classes and then main, where there was none before
pub run_noted : (cs : List Class) (ds : List ClassDecl) (main : Block) (before then all : List ClassKey) → declarations cs ≡ ds → before ≡ []
    → then ≡ before ++ flat_map decl_proxies ds → all ≡ then ++ proxies_in main → all ≡ flat_map proxies_in (blocks_of cs main)
run_noted cs ds main before then all e f g h =
    h ∙ ap (λ z. z ++ proxies_in main) (g ∙ ap (λ z. z ++ flat_map decl_proxies ds) f) ∙ ap (λ z. flat_map decl_proxies z ++ proxies_in main) (sym e) ∙ sym (run_is cs main)
