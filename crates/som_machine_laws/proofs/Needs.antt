-- What the instructions of a piece of code need of where they stand, for each way in which pieces are joined.
use Rattle.std.proofs.Common.{◌≡◌, ◌+◌, ℕ, inl, inr, Bool, true, false, if◌then◌else◌, nat_lt, List, [], ◌∷◌, ◌++◌, map, length, Option, Some, None, slice_get, IsSome, sym, subst}
use Rattle.som_model.specs.declared.key.ClassKey.{ClassKey}
use Rattle.som_model.specs.declared.key.ValueType.{ValueType}
use Rattle.som_model.specs.declared.class.Variable.{Variable}
use Rattle.som_model.specs.Class.{Class}
use Rattle.som_model.specs.Lists.{Mem}
use Rattle.som_semantics.specs.Values.{BinaryOp, And, Or}
use Rattle.som_model_laws.proofs.Members.{mem_split}
use Rattle.som_code.specs.declared.instruction.Constant.TheVariants as constants
use Rattle.som_code.specs.declared.instruction.Instruction.{Instruction}
use Rattle.som_code.specs.declared.instruction.Instruction.TheVariants as ops
use Rattle.som_code.specs.Laid.{Lays, nothing, just, ◌then◌, lay_and, lay_or, lay_right, lay_choice, lay_loop, set_local}

abbrev pub variable_kind : Option Class → ℕ → Option ValueType
variable_kind None n = None
variable_kind (Some c) n = slice_get (map (λ (v : Variable). v.kind) c.decl.variables) n

abbrev pub parent_in : Option Class → ℕ → Option ClassKey
parent_in None n = None
parent_in (Some c) n = slice_get c.decl.face.parents n

-- an instruction finds what it needs where it stands: a class, a variable of it, a parent of it
abbrev pub Finds : Option Class → Instruction → Type 0
Finds c ops.Me = IsSome c
Finds c (ops.GetVariable n) = IsSome (variable_kind c n)
Finds c (ops.SetVariable n) = IsSome (variable_kind c n)
Finds c (ops.ParentCall p r n) = IsSome (parent_in c p)
Finds c (ops.ParentsCall r n) = IsSome c
Finds c _ = Unit {0}

module _ (c : Option Class) where
  pub record AllFind (f : Lays) : Type 0 where
    pub by : (a : ℕ) (i : Instruction) → Mem i (f a) → Finds c i

  at : (i j : Instruction) → Finds c j → i ≡ j → Finds c i
  at i j h e = subst (Finds c) (sym e) h

  pub find_nothing : AllFind nothing
  find_nothing = record { by = λ a i m. absurd m }

  pub find_one : (i : Instruction) → Finds c i → AllFind (just i)
  find_one i h = record { by = λ a j m. elim m [ inl e ↦ at j i h e | inr z ↦ absurd z ] }

  module _ (f g : Lays) (h : AllFind f) (k : AllFind g) where
    pub find_then : AllFind (f then g)
    find_then = record { by = λ a i m. elim (mem_split i (f a) (g (a + length (f a))) m) [ inl x ↦ h.by a i x | inr x ↦ k.by (a + length (f a)) i x ] }

    pub find_choice : AllFind (lay_choice f g)
    find_choice = record {
      by = λ b i m.
          let d = b + 1 + length (f (b + 1)) in
          elim m [
            | inl e ↦ at i (ops.Unless (d + 1)) tt e
            | inr x ↦ elim (mem_split i (f (b + 1)) (ops.Jump (d + 1 + length (g (d + 1))) ∷ g (d + 1)) x) [
              | inl y ↦ h.by (b + 1) i y
              | inr y ↦ elim y [ inl e ↦ at i (ops.Jump (d + 1 + length (g (d + 1)))) tt e | inr z ↦ k.by (d + 1) i z ]
            ]
          ];
    }

    pub find_loop : AllFind (lay_loop f g)
    find_loop = record {
      by = λ a i m.
          let d = a + 2 + length (g (a + 2)) in
          let b = d + length (f d) in
          let end : List Instruction = ops.Unless (b + 2) ∷ ops.Jump (a + 1) ∷ [] in
          elim m [
            | inl e ↦ at i (ops.Jump d) tt e
            | inr w ↦ elim w [
              | inl e ↦ at i ops.Turn tt e
              | inr x ↦ elim (mem_split i (g (a + 2)) (f d ++ end) x) [
                | inl y ↦ k.by (a + 2) i y
                | inr y ↦ elim (mem_split i (f d) end y) [
                  | inl z ↦ h.by d i z
                  | inr z ↦ elim z [
                    | inl e ↦ at i (ops.Unless (b + 2)) tt e
                    | inr v ↦ elim v [ inl e ↦ at i (ops.Jump (a + 1)) tt e | inr u ↦ absurd u ]
                  ]
                ]
              ]
            ]
          ];
    }

  module _ (f : Lays) (h : AllFind f) where
    -- an instruction follows
    pub find_last : (i : Instruction) → Finds c i → AllFind (f then just i)
    find_last i n = find_then f (just i) h (find_one i n)

    find_and : AllFind (lay_and f)
    find_and = record {
      by = λ b i m.
          let d = b + 1 + length (f (b + 1)) in
          let tail : List Instruction = ops.Jump (d + 2) ∷ ops.Push (constants.Boolean false) ∷ [] in
          elim m [
            | inl e ↦ at i (ops.Unless (d + 1)) tt e
            | inr x ↦ elim (mem_split i (f (b + 1)) tail x) [
              | inl y ↦ h.by (b + 1) i y
              | inr y ↦ elim y [
                | inl e ↦ at i (ops.Jump (d + 2)) tt e
                | inr z ↦ elim z [ inl e ↦ at i (ops.Push (constants.Boolean false)) tt e | inr u ↦ absurd u ]
              ]
            ]
          ];
    }

    find_or : AllFind (lay_or f)
    find_or = record {
      by = λ b i m. elim m [
        | inl e ↦ at i (ops.Unless (b + 3)) tt e
        | inr x ↦ elim x [
          | inl e ↦ at i (ops.Push (constants.Boolean true)) tt e
          | inr y ↦ elim y [ inl e ↦ at i (ops.Jump (b + 3 + length (f (b + 3)))) tt e | inr z ↦ h.by (b + 3) i z ]
        ]
      ];
    }

    pub find_right : (o : BinaryOp) (op : ℕ) → AllFind (lay_right o op f)
    find_right And op = find_and
    find_right Or op = find_or
    find_right _ op = find_last (ops.Binary op) tt

  -- a local that is set, or a value that is dropped
  set_by : (n : ℕ) (b : Bool) → Finds c (if b then ops.Set n else ops.Drop)
  set_by n true = tt
  set_by n false = tt

  pub set_finds : (n d : ℕ) → Finds c (set_local n d)
  set_finds n d = set_by n (nat_lt n d)
