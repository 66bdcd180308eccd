-- Clients that were compiled against any of a list of accepted releases take turns on the newest as they mean.
use Rattle.std.proofs.Common.{◌≡◌, List, [], ◌∷◌, ◌++◌, ℕ, refl, inl, inr, sym, subst}
use Rattle.som_model.specs.declared.program.ClientProgram.{ClientProgram}
use Rattle.som_model.specs.declared.program.Release.{Release}
use Rattle.som_model.specs.Bytes.{Files}
use Rattle.som_model.specs.Classes.{classes}
use Rattle.som_model.specs.Lists.{Mem}
use Rattle.som_cmd_run.specs.Newest.{MetaclassesDescend}
use Rattle.som_cmd_run.proofs.NewestLaws.{newest_keeps, newest_metaclasses, newest_under}
use Rattle.som_cmd_tasks.specs.Newest.{Compiled, HoldAllNewest, HoldsTasks, programs_of}
use Rattle.som_cmd_tasks.specs.TasksEnds.{AreClientsUnder, AreGroupUnder, KeepsAll}

is_last : (earlier : List Release) (newest : Release) → Mem newest (earlier ++ newest ∷ [])
is_last [] newest = inl refl
is_last (r ∷ rs) newest = inr (is_last rs newest)

module _ (files : Files) (l : List ℕ) (earlier : List Release) (newest : Release) where
  clients_under : (ns : List (List ℕ)) (cs : List Compiled) → HoldAllNewest files l earlier newest ns cs → AreClientsUnder files ns (programs_of cs)
  clients_under [] [] h = tt
  clients_under [] (c ∷ cs) h = absurd h
  clients_under (n ∷ ns) [] h = absurd h
  clients_under (n ∷ ns) (c ∷ cs) h = ((newest_under files n l earlier newest c.place c.texts c.program h.0).program, clients_under ns cs h.1)

  all_kept : (ns : List (List ℕ)) (cs : List Compiled) → HoldAllNewest files l earlier newest ns cs → KeepsAll newest (programs_of cs)
  all_kept [] [] h = tt
  all_kept [] (c ∷ cs) h = absurd h
  all_kept (n ∷ ns) [] h = absurd h
  all_kept (n ∷ ns) (c ∷ cs) h = (newest_keeps files n l earlier newest c.place c.texts c.program h.0, all_kept ns cs h.1)

  metaclasses_of : (ns : List (List ℕ)) (cs : List Compiled) → HoldAllNewest files l earlier newest ns cs → (p : ClientProgram) → Mem p (programs_of cs) → MetaclassesDescend (classes newest p)
  metaclasses_of [] [] h p m = absurd m
  metaclasses_of [] (c ∷ cs) h p m = absurd h
  metaclasses_of (n ∷ ns) [] h p m = absurd h
  metaclasses_of (n ∷ ns) (c ∷ cs) h p (inl is) = subst (λ (q : ClientProgram). MetaclassesDescend (classes newest q)) (sym is) (newest_metaclasses files n l earlier newest c.place c.texts c.program h.0)
  metaclasses_of (n ∷ ns) (c ∷ cs) h p (inr m) = metaclasses_of ns cs h.1 p m

  module _ (ns : List (List ℕ)) (cs : List Compiled) (h : HoldsTasks files l ns earlier newest cs) where
    -- all conform
    pub group_under : AreGroupUnder files l ns newest (programs_of cs)
    group_under = record {
      release = record { bytes = h.release.bytes; image_is = h.release.image_is; bytes_are = h.release.bytes_are; spelled = h.release.spelled; conforms = h.accepted.conform newest (is_last earlier newest) };
      programs = clients_under ns cs h.all;
    }

    -- the newest keeps what each was compiled against
    pub newest_keeps_all : KeepsAll newest (programs_of cs)
    newest_keeps_all = all_kept ns cs h.all

    -- and metaclasses descend from those of parents
    pub all_metaclasses : (p : ClientProgram) → Mem p (programs_of cs) → MetaclassesDescend (classes newest p)
    all_metaclasses p m = metaclasses_of ns cs h.all p m
