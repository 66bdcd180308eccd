-- What a class has of its own stands among its bodies and its overrides, so its blocks are among those that may run.
use Rattle.std.proofs.Common.{◌≡◌, ◌⊎◌, ℕ, inl, inr, Bool, true, false, ◌||◌, if◌then◌else◌, List, [], ◌∷◌, map, flat_map, Option, Some, None, refl, sym, ap, ◌∙◌, subst, true≢false}
use Rattle.std.specs.Prelude.{is_some}
use Rattle.std.specs.Str.{bytes_eq}
use Rattle.som_model.specs.declared.key.ClassKey.{ClassKey, out-ClassKey}
use Rattle.som_model.specs.declared.key.ClassKey.TheOpen.{ClassKey-F}
use Rattle.som_model.specs.declared.key.MethodRef.{MethodRef}
use Rattle.som_model.specs.declared.syntax.Block.{Block}
use Rattle.som_model.specs.declared.class.Entry.{Entry}
use Rattle.som_model.specs.declared.class.Entry.TheVariants as entries
use Rattle.som_model.specs.declared.class.Body.{Body}
use Rattle.som_model.specs.declared.class.Body.TheVariants as bodies
use Rattle.som_model.specs.declared.class.Override.{Override}
use Rattle.som_model.specs.Lists.{Mem, or_else, some}
use Rattle.som_model.specs.Keys.{same_key, same_method}
use Rattle.som_model.specs.Class.{Class, entry_of}
use Rattle.som_model.specs.Classes.{class_at}
use Rattle.som_model.specs.Kernel.{som_init, som_uninit}
use Rattle.som_model.specs.Implementation.{Held, User, Get, Set, OfKernel, Forward, Nothing, body_named, declared_held, forwards, held, held_by, introduced_body, is_kernel, override_of, proxy_held}
use Rattle.som_model.specs.Made.{blocks_of, blocks_of_class}
use Rattle.som_model.specs.Owner.{owner}
use Rattle.som_semantics.specs.World.{world}
use Rattle.som_model_laws.proofs.Members.{mem_left, mem_right}
use Rattle.som_model_laws.proofs.Lists.{find_mem, mem_map, mem_flat}

abbrev block_in : Body → List Block
block_in (bodies.User b) = b ∷ []
block_in (bodies.Get n) = []
block_in (bodies.Set n) = []

abbrev pub held_body : Body → Held
held_body (bodies.User b) = User b
held_body (bodies.Get n) = Get n
held_body (bodies.Set n) = Set n

-- what classes declare, and not what the kernel's and proxies have
abbrev pub is_written : Held → Bool
is_written (User b) = true
is_written (Get n) = true
is_written (Set n) = true
is_written _ = false

-- one of these bodies
abbrev pub IsBodyIn : List Body → Held → Type 0
IsBodyIn bs h = (d : Body) × Mem d bs × (held_body d ≡ h)

-- one of these overrides
abbrev pub IsOverrideIn : List Override → Held → Type 0
IsOverrideIn os h = (o : Override) × Mem o os × (User o.block ≡ h)

abbrev pub IsIn : Class → Held → Type 0
IsIn c h = IsBodyIn c.decl.bodies h ⊎ IsOverrideIn c.decl.overrides h

same_held : (x y : Held) → Some x ≡ Some y → x ≡ y
same_held x y e = let z = e in cc

later_body : (d : Body) (bs : List Body) (h : Held) → IsBodyIn bs h → IsBodyIn (d ∷ bs) h
later_body d bs h (x, m, e) = (x, inr m, e)

-- the body of an introduced name is one of the class's
named_body : (es : List Entry) (bs : List Body) (name : List ℕ) (h : Held) → body_named es bs name ≡ Some h → IsBodyIn bs h
named_body [] bs name h e = absurd (let z = e in cc)
named_body (entries.Moved n to ∷ es) bs name h e = named_body es bs name h e
named_body (entries.Introduced n sig way ∷ es) [] name h e = absurd (let z = e in cc)
named_body (entries.Introduced n sig way ∷ es) (x ∷ bs) name h e = by (bytes_eq n name) e (named_body es bs name h)
  where
    by : (t : Bool) → (if t then Some (held_body x) else body_named es bs name) ≡ Some h → (body_named es bs name ≡ Some h → IsBodyIn bs h) → IsBodyIn (x ∷ bs) h
    by true f further = (x, inl refl, same_held (held_body x) h f)
    by false f further = later_body x bs h (further f)

not_kernels : (name : List ℕ) (h : Held) → Some (OfKernel name) ≡ Some h → is_written h ≡ true → ⊥
not_kernels name h e w = true≢false (sym w ∙ ap is_written (sym (same_held (OfKernel name) h e)))

introduced_in : (c : Class) (name : List ℕ) (h : Held) → introduced_body c name ≡ Some h → is_written h ≡ true → IsBodyIn c.decl.bodies h
introduced_in c name h e w = by (is_kernel c.key) (is_some (entry_of c.decl.face.entries name)) e
  where
    by : (k t : Bool) → (if k then (if t then Some (OfKernel name) else None) else body_named c.decl.face.entries c.decl.bodies name) ≡ Some h → IsBodyIn c.decl.bodies h
    by true true f = absurd (not_kernels name h f w)
    by true false f = absurd (let z = f in cc)
    by false t f = named_body c.decl.face.entries c.decl.bodies name h f

overridden : (cs : List Class) (r : MethodRef) (os : List Override) (h : Held) → override_of cs r os ≡ Some h → IsOverrideIn os h
overridden cs r [] h e = absurd (let z = e in cc)
overridden cs r (o ∷ os) h e = by (same_method (owner cs o.method) r) e (overridden cs r os h)
  where
    by : (t : Bool) → (if t then Some (User o.block) else override_of cs r os) ≡ Some h → (override_of cs r os ≡ Some h → IsOverrideIn os h) → IsOverrideIn (o ∷ os) h
    by true f further = (o, inl refl, same_held (User o.block) h f)
    by false f further = let x = further f in (x.0, inr x.1, x.2)

one_block : (d : Body) (b : Block) → held_body d ≡ User b → Mem b (block_in d)
one_block (bodies.User c) b e = inl (let z = e in cc)
one_block (bodies.Get n) b e = absurd (let z = e in cc)
one_block (bodies.Set n) b e = absurd (let z = e in cc)

same_block : (a b : Block) → User a ≡ User b → b ≡ a
same_block a b e = let z = e in cc

-- a block that a class has is one of its blocks
pub block_of_class : (c : Class) (b : Block) → IsIn c (User b) → Mem b (blocks_of_class c)
block_of_class c b (inl (d, m, e)) = mem_left b (flat_map block_in c.decl.bodies) (map (λ (o : Override). o.block) c.decl.overrides) (mem_flat block_in b d c.decl.bodies m (one_block d b e))
block_of_class c b (inr (o, m, e)) =
    mem_right b (flat_map block_in c.decl.bodies) (map (λ (x : Override). x.block) c.decl.overrides)
    (at (map (λ (x : Override). x.block) c.decl.overrides) (same_block o.block b e) (mem_map (λ (x : Override). x.block) o c.decl.overrides m))
  where
    at : (xs : List Block) → b ≡ o.block → Mem o.block xs → Mem b xs
    at xs is n = subst (λ z. Mem z xs) (sym is) n

module _ (cs : List Class) (r : MethodRef) (h : Held) (w : is_written h ≡ true) where
  class_holds : (c : Class) → declared_held cs (Some c) r ≡ Some h → IsIn c h
  class_holds c e = by (same_key c.key r.class) e
    where
      either : (q : Option Held) → introduced_body c r.name ≡ q → or_else q (override_of cs r c.decl.overrides) ≡ Some h → IsIn c h
      either None g f = inr (overridden cs r c.decl.overrides h f)
      either (Some x) g f = inl (introduced_in c r.name h (g ∙ f) w)

      by : (t : Bool) → or_else (if t then introduced_body c r.name else None) (override_of cs r c.decl.overrides) ≡ Some h → IsIn c h
      by true f = either (introduced_body c r.name) refl f
      by false f = inr (overridden cs r c.decl.overrides h f)

  -- a declared class that has it
  pub record Declares (k : ClassKey) : Type 0 where
    pub class : Class
    pub at : class_at cs k ≡ Some class
    pub is_in : IsIn class h

  declared_has : (k : ClassKey) (q : Option Class) → class_at cs k ≡ q → declared_held cs q r ≡ Some h → Declares k
  declared_has k None g e = absurd (let z = e in cc)
  declared_has k (Some c) g e = record { class = c; at = g; is_in = class_holds c e }

  not_written : (x : Held) → is_written x ≡ false → Some x ≡ Some h → ⊥
  not_written x f e = true≢false (sym w ∙ ap is_written (sym (same_held x h e)) ∙ f)

  proxy_none : (k c : ClassKey) → proxy_held cs c r ≡ Some h → Declares k
  proxy_none k c e = by (same_method r som_init) (same_method r som_uninit) (some (same_method r) (forwards cs c)) e
    where
      by : (x y z : Bool) → (if x || y then Some Nothing else (if z then Some Forward else None)) ≡ Some h → Declares k
      by true y z f = absurd (not_written Nothing refl f)
      by false true z f = absurd (not_written Nothing refl f)
      by false false true f = absurd (not_written Forward refl f)
      by false false false f = absurd (let t = f in cc)

  held_layer : (k : ClassKey) (l : ClassKey-F ClassKey) → held_by cs l k r ≡ Some h → Declares k
  held_layer k (ClassKey-F.Named m name) e = declared_has k (class_at cs k) refl e
  held_layer k (ClassKey-F.Derived ks) e = absurd (let z = e in cc)
  held_layer k (ClassKey-F.Proxy c) e = proxy_none k c e

  -- a class that has a declared body is declared, and the body is one of its bodies or overrides
  pub held_in : (k : ClassKey) → held cs k r ≡ Some h → Declares k
  held_in k e = held_layer k (out-ClassKey k) e

  -- as a run asks for it
  pub world_in : (k : ClassKey) → (world cs).held k r ≡ Some h → Declares k
  unfolding world
  world_in k e = held_in k e

module _ (cs : List Class) (main : Block) (r : MethodRef) (b : Block) where
  may_run : (k : ClassKey) → Declares cs r (User b) refl k → Mem b (blocks_of cs main)
  may_run k d =
      mem_left b (flat_map blocks_of_class cs) (main ∷ []) (mem_flat blocks_of_class b d.class cs (find_mem (λ (z : Class). same_key z.key k) cs d.class d.at).0 (block_of_class d.class b d.is_in))

  -- a block that a class has is one that may run
  pub held_block : (k : ClassKey) → held cs k r ≡ Some (User b) → Mem b (blocks_of cs main)
  held_block k e = may_run k (held_in cs r (User b) refl k e)

  -- as a run asks for it
  pub world_block : (k : ClassKey) → (world cs).held k r ≡ Some (User b) → Mem b (blocks_of cs main)
  world_block k e = may_run k (world_in cs r (User b) refl k e)
