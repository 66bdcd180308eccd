-- The steps one after the other come to what is made, or to the first that refuses.
use Rattle.std.proofs.Common.{◌≡◌, ℕ, ◌≤◌, [], ◌∷◌, Ok, Err, sym, subst, ◌∙◌, inl, inr}
use Rattle.som_model.specs.declared.program.Release.{Release}
use Rattle.som_model.specs.Class.{interface_of}
use Rattle.som_model.specs.Conforming.{ReleaseOk}
use Rattle.som_model.specs.Lists.{Mem}
use Rattle.som_compat.specs.Conditions.{Conforms}
use Rattle.som_compile.specs.Compiling.{IsBase}
use Rattle.som_generator.specs.declared.edition.Edition.TheVariants.{First, Second}
use Rattle.som_generator.specs.declared.fault.MakeFault.{MakeFault}
use Rattle.som_generator.specs.declared.fault.MakeFault.TheVariants as faults
use Rattle.som_generator.specs.declared.fault.Unmade.{Unmade}
use Rattle.som_generator.specs.declared.fault.Unmade.TheVariants as unmade
use Rattle.som_generator.specs.declared.made.Client.{Client}
use Rattle.som_generator.specs.declared.made.Library.{Library}
use Rattle.som_generator.specs.declared.made.Made.{Made}
use Rattle.som_generator.specs.Making.{Answers, Makes, client_refused, first_refused, made, not_kept, second_refused}
use Rattle.som_generator.specs.Steps.{ClientComes, ComparingComes, LibraryComes}
use Rattle.som_generator.specs.Texts.{client_texts, library_texts}
use Rattle.som_generator.proofs.Standing.{library_base, library_compared, library_conforms}

-- the first release isn't compiled
pub first_fails : (n : ℕ) (f : MakeFault) → Answers {A = Library} (LibraryComes (library_texts First n)) (Err f) → Answers {A = Made} (Makes n) (Err f)
first_fails n (faults.Unmade (unmade.Texts w)) a = first_refused w a
first_fails n (faults.Unmade (unmade.NotKept k)) a = absurd a
first_fails n faults.NoMemory a = tt

-- the second isn't
pub second_fails : (n : ℕ) (a : Library) (f : MakeFault) → Answers (LibraryComes (library_texts First n)) (Ok a) → Answers {A = Library} (LibraryComes (library_texts Second n)) (Err f) → Answers {A = Made} (Makes n) (Err f)
second_fails n a (faults.Unmade (unmade.Texts w)) x y = second_refused a w x y
second_fails n a (faults.Unmade (unmade.NotKept k)) x y = absurd y
second_fails n a faults.NoMemory x y = tt

-- the client isn't
pub client_fails : (n : ℕ) (a b : Library) (f : MakeFault) → Answers (LibraryComes (library_texts First n)) (Ok a) → Answers (LibraryComes (library_texts Second n)) (Ok b)
    → Answers {A = Client} (ClientComes (interface_of a.release) (client_texts n)) (Err f) → Answers {A = Made} (Makes n) (Err f)
client_fails n a b (faults.Unmade (unmade.Texts w)) x y z = client_refused a b w x y z
client_fails n a b (faults.Unmade (unmade.NotKept k)) x y z = absurd z
client_fails n a b faults.NoMemory x y z = tt

-- the second release isn't accepted
pub comparing_fails : (n : ℕ) (a b : Library) (c : Client) (f : MakeFault) → Answers (LibraryComes (library_texts First n)) (Ok a) → Answers (LibraryComes (library_texts Second n)) (Ok b)
    → Answers (ClientComes (interface_of a.release) (client_texts n)) (Ok c) → Answers {A = Unit {0}} (ComparingComes (interface_of a.release) (interface_of b.release)) (Err f) → Answers {A = Made} (Makes n) (Err f)
comparing_fails n a b c (faults.Unmade (unmade.Texts w)) x y z k = absurd k
comparing_fails n a b c (faults.Unmade (unmade.NotKept lost)) x y z k = not_kept a b c lost x y z k
comparing_fails n a b c faults.NoMemory x y z k = tt

both_conform : (a b : Release) → ReleaseOk a → ReleaseOk b → (r : Release) → Mem r (a ∷ b ∷ []) → ReleaseOk r
both_conform a b p q r (inl here) = subst ReleaseOk (sym here) p
both_conform a b p q r (inr (inl there)) = subst ReleaseOk (sym there) q
both_conform a b p q r (inr (inr none)) = absurd none

-- all is made
pub all_made : (n : ℕ) (a b : Library) (c : Client) (u : Unit {0}) → Answers (LibraryComes (library_texts First n)) (Ok a) → Answers (LibraryComes (library_texts Second n)) (Ok b)
    → Answers (ClientComes (interface_of a.release) (client_texts n)) (Ok c) → Answers (ComparingComes (interface_of a.release) (interface_of b.release)) (Ok u)
    → Answers (Makes n) (Ok (record { first = a; second = b; client = c }))
all_made n a b c u x y z k = made (record { first = a; second = b; client = c }) (record {
  first = x;
  second = y;
  client = z;
  accepted = record {
    some = λ none. (cc);
    conform = both_conform a.release b.release (library_conforms (library_texts First n) a x) (library_conforms (library_texts Second n) b y);
    next = (k, tt);
  };
})

-- ---- what the steps ask for

pub base_made : (n : ℕ) (a : Library) → Answers (LibraryComes (library_texts First n)) (Ok a) → IsBase (interface_of a.release)
base_made n a x = library_base (library_texts First n) a x

pub first_compared : (n : ℕ) (a : Library) → Answers (LibraryComes (library_texts First n)) (Ok a) → Conforms (interface_of a.release)
first_compared n a x = library_compared (library_texts First n) a x

pub second_compared : (n : ℕ) (b : Library) → Answers (LibraryComes (library_texts Second n)) (Ok b) → Conforms (interface_of b.release)
second_compared n b y = library_compared (library_texts Second n) b y
