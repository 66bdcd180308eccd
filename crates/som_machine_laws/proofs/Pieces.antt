-- What the instructions of a piece of code name, a part of a tree names.
use Rattle.std.proofs.Common.{◌≡◌, ◌⊎◌, ◌+◌, ℕ, inl, inr, true, false, List, [], ◌∷◌, ◌++◌, length, refl, sym, subst}
use Rattle.som_model.specs.declared.key.ClassKey.{ClassKey}
use Rattle.som_model.specs.declared.key.ClassKey.TheVariants as keys
use Rattle.som_model.specs.Lists.{Mem}
use Rattle.som_model.specs.Kernel.{som_free}
use Rattle.som_model.specs.Named.{Named, AClass, AProxy, method_names, type_names}
use Rattle.som_semantics.specs.Values.{BinaryOp, And, Or}
use Rattle.som_model_laws.proofs.Members.{mem_left, mem_right, mem_split}
use Rattle.som_code.specs.declared.instruction.Constant.TheVariants as constants
use Rattle.som_code.specs.declared.instruction.Instruction.{Instruction}
use Rattle.som_code.specs.declared.instruction.Instruction.TheVariants as ops
use Rattle.som_code.specs.Laid.{Lays, nothing, just, ◌then◌, lay_and, lay_or, lay_right, lay_choice, lay_loop}

-- what an instruction names, as the form does that it is the code of
abbrev pub named_by : Instruction → List Named
named_by (ops.New k) = AClass k ∷ []
named_by (ops.Class k) = AClass k ∷ []
named_by (ops.Cast k) = AClass k ∷ []
named_by (ops.Isa k) = AClass k ∷ []
named_by (ops.Proxy k) = AClass k ∷ AProxy k ∷ []
named_by (ops.OffsetCall method n) = method_names method
named_by (ops.Lookup result name n) = type_names result
named_by (ops.Dispatch result name n) = type_names result
named_by (ops.ParentCall parent method n) = method_names method
named_by (ops.ParentsCall method n) = method_names method
named_by _ = []

abbrev pub proxies_by : Instruction → List ClassKey
proxies_by (ops.Proxy k) = keys.Proxy k ∷ []
proxies_by _ = []

-- what an instruction names is among these, but for somFree, which no form names
pub record IsOf (ns : List Named) (ps : List ClassKey) (i : Instruction) : Type 0 where
  pub names : (n : Named) → Mem n (named_by i) → Mem n ns ⊎ Mem n (method_names som_free)
  pub proxies : (p : ClassKey) → Mem p (proxies_by i) → Mem p ps

pub record Covers (ns : List Named) (ps : List ClassKey) (f : Lays) : Type 0 where
  pub by : (a : ℕ) (i : Instruction) → Mem i (f a) → IsOf ns ps i

module _ (ns ms : List Named) (ps qs : List ClassKey) (i : Instruction) where
  in_left : IsOf ns ps i → IsOf (ns ++ ms) (ps ++ qs) i
  in_left h = record {
    names = λ n m. elim (h.names n m) [ inl k ↦ inl (mem_left n ns ms k) | inr k ↦ inr k ];
    proxies = λ p m. mem_left p ps qs (h.proxies p m);
  }

  in_right : IsOf ms qs i → IsOf (ns ++ ms) (ps ++ qs) i
  in_right h = record {
    names = λ n m. elim (h.names n m) [ inl k ↦ inl (mem_right n ns ms k) | inr k ↦ inr k ];
    proxies = λ p m. mem_right p ps qs (h.proxies p m);
  }

of_itself : (i : Instruction) → IsOf (named_by i) (proxies_by i) i
of_itself i = record { names = λ n m. inl m; proxies = λ p m. m }

-- an instruction that names nothing
of_any : (ns : List Named) (ps : List ClassKey) (i j : Instruction) → named_by j ≡ [] → proxies_by j ≡ [] → i ≡ j → IsOf ns ps i
of_any ns ps i j e f is = subst (λ z. IsOf ns ps z) (sym is) (record {
  names = λ n m. absurd (subst (λ z. Mem n z) e m);
  proxies = λ p m. absurd (subst (λ z. Mem p z) f m);
})

pub covers_nothing : Covers [] [] nothing
covers_nothing = record { by = λ a i m. absurd m }

pub covers_one : (i : Instruction) → Covers (named_by i) (proxies_by i) (just i)
covers_one i = record { by = λ a j m. elim m [ inl e ↦ subst (λ z. IsOf (named_by i) (proxies_by i) z) (sym e) (of_itself i) | inr z ↦ absurd z ] }

pub covers_after : (ms ns : List Named) (ps : List ClassKey) (f : Lays) → Covers ns ps f → Covers (ms ++ ns) ps f
covers_after ms ns ps f h = record { by = λ a i m. in_right ms ns [] ps i (h.by a i m) }

module _ (ns ms : List Named) (ps qs : List ClassKey) (f g : Lays) (h : Covers ns ps f) (k : Covers ms qs g) where
  pub covers_then : Covers (ns ++ ms) (ps ++ qs) (f then g)
  covers_then = record {
    by = λ a i m. elim (mem_split i (f a) (g (a + length (f a))) m) [
      | inl x ↦ in_left ns ms ps qs i (h.by a i x)
      | inr x ↦ in_right ns ms ps qs i (k.by (a + length (f a)) i x)
    ];
  }

  pub covers_choice : Covers (ns ++ ms) (ps ++ qs) (lay_choice f g)
  covers_choice = record {
    by = λ b i m.
        let c = b + 1 + length (f (b + 1)) in
        elim m [
          | inl e ↦ of_any (ns ++ ms) (ps ++ qs) i (ops.Unless (c + 1)) refl refl e
          | inr x ↦ elim (mem_split i (f (b + 1)) (ops.Jump (c + 1 + length (g (c + 1))) ∷ g (c + 1)) x) [
            | inl y ↦ in_left ns ms ps qs i (h.by (b + 1) i y)
            | inr y ↦ elim y [
              | inl e ↦ of_any (ns ++ ms) (ps ++ qs) i (ops.Jump (c + 1 + length (g (c + 1)))) refl refl e
              | inr z ↦ in_right ns ms ps qs i (k.by (c + 1) i z)
            ]
          ]
        ];
  }

  pub covers_loop : Covers (ns ++ ms) (ps ++ qs) (lay_loop f g)
  covers_loop = record {
    by = λ a i m.
        let c = a + 2 + length (g (a + 2)) in
        let b = c + length (f c) in
        let end : List Instruction = ops.Unless (b + 2) ∷ ops.Jump (a + 1) ∷ [] in
        elim m [
          | inl e ↦ of_any (ns ++ ms) (ps ++ qs) i (ops.Jump c) refl refl e
          | inr w ↦ elim w [
            | inl e ↦ of_any (ns ++ ms) (ps ++ qs) i ops.Turn refl refl e
            | inr x ↦ elim (mem_split i (g (a + 2)) (f c ++ end) x) [
              | inl y ↦ in_right ns ms ps qs i (k.by (a + 2) i y)
              | inr y ↦ elim (mem_split i (f c) end y) [
                | inl z ↦ in_left ns ms ps qs i (h.by c i z)
                | inr z ↦ elim z [
                  | inl e ↦ of_any (ns ++ ms) (ps ++ qs) i (ops.Unless (b + 2)) refl refl e
                  | inr v ↦ elim v [ inl e ↦ of_any (ns ++ ms) (ps ++ qs) i (ops.Jump (a + 1)) refl refl e | inr u ↦ absurd u ]
                ]
              ]
            ]
          ]
        ];
  }

module _ (ns : List Named) (ps : List ClassKey) (f : Lays) (h : Covers ns ps f) where
  pub covers_last : (i : Instruction) → Covers (named_by i ++ ns) (proxies_by i ++ ps) (f then just i)
  covers_last i = record {
    by = λ a j m. elim (mem_split j (f a) (i ∷ []) m) [
      | inl x ↦ in_right (named_by i) ns (proxies_by i) ps j (h.by a j x)
      | inr x ↦ in_left (named_by i) ns (proxies_by i) ps j ((covers_one i).by a j x)
    ];
  }

  -- an instruction follows that names nothing
  pub covers_plain : (i : Instruction) → named_by i ≡ [] → proxies_by i ≡ [] → Covers ns ps (f then just i)
  covers_plain i e g = subst (λ z. Covers (z ++ ns) ps (f then just i)) e (subst (λ z. Covers (named_by i ++ ns) (z ++ ps) (f then just i)) g (covers_last i))

  -- an object is freed
  pub covers_free : Covers ns ps (f then (just (ops.OffsetCall som_free 0) then just ops.Drop))
  covers_free = record {
    by = λ a i m. elim (mem_split i (f a) (ops.OffsetCall som_free 0 ∷ ops.Drop ∷ []) m) [
      | inl x ↦ h.by a i x
      | inr x ↦ elim x [
        | inl e ↦ subst (λ z. IsOf ns ps z) (sym e) (record { names = λ n k. inr k; proxies = λ p k. absurd k })
        | inr y ↦ elim y [ inl e ↦ of_any ns ps i ops.Drop refl refl e | inr z ↦ absurd z ]
      ]
    ];
  }

  covers_and : Covers ns ps (lay_and f)
  covers_and = record {
    by = λ b i m.
        let c = b + 1 + length (f (b + 1)) in
        let tail : List Instruction = ops.Jump (c + 2) ∷ ops.Push (constants.Boolean false) ∷ [] in
        elim m [
          | inl e ↦ of_any ns ps i (ops.Unless (c + 1)) refl refl e
          | inr x ↦ elim (mem_split i (f (b + 1)) tail x) [
            | inl y ↦ h.by (b + 1) i y
            | inr y ↦ elim y [
              | inl e ↦ of_any ns ps i (ops.Jump (c + 2)) refl refl e
              | inr z ↦ elim z [ inl e ↦ of_any ns ps i (ops.Push (constants.Boolean false)) refl refl e | inr u ↦ absurd u ]
            ]
          ]
        ];
  }

  covers_or : Covers ns ps (lay_or f)
  covers_or = record {
    by = λ b i m. elim m [
      | inl e ↦ of_any ns ps i (ops.Unless (b + 3)) refl refl e
      | inr x ↦ elim x [
        | inl e ↦ of_any ns ps i (ops.Push (constants.Boolean true)) refl refl e
        | inr y ↦ elim y [ inl e ↦ of_any ns ps i (ops.Jump (b + 3 + length (f (b + 3)))) refl refl e | inr z ↦ h.by (b + 3) i z ]
      ]
    ];
  }

  pub covers_right : (o : BinaryOp) (op : ℕ) → Covers ns ps (lay_right o op f)
  covers_right And op = covers_and
  covers_right Or op = covers_or
  covers_right _ op = covers_plain (ops.Binary op) refl refl

-- the parts of a call, and then the call
pub covers_call : (ns ms : List Named) (ps qs : List ClassKey) (f g : Lays) (i : Instruction) → Covers ns ps f → Covers ms qs g → Covers (named_by i ++ (ns ++ ms)) (proxies_by i ++ (ps ++ qs)) (f then (g then just i))
covers_call ns ms ps qs f g i h k = record {
  by = λ a j m. elim (mem_split j (f a) ((g then just i) (a + length (f a))) m) [
    | inl x ↦ in_right (named_by i) (ns ++ ms) (proxies_by i) (ps ++ qs) j (in_left ns ms ps qs j (h.by a j x))
    | inr x ↦ elim (mem_split j (g (a + length (f a))) (i ∷ []) x) [
      | inl y ↦ in_right (named_by i) (ns ++ ms) (proxies_by i) (ps ++ qs) j (in_right ns ms ps qs j (k.by (a + length (f a)) j y))
      | inr y ↦ in_left (named_by i) (ns ++ ms) (proxies_by i) (ps ++ qs) j ((covers_one i).by a j y)
    ]
  ];
}
