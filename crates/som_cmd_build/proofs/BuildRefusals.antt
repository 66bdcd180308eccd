-- What `library` and `client` may refuse, and which statuses they may end with, whatever the store tells.
use Rattle.std.proofs.Common.{List, Result, Ok, Err, refl, inl, inr}
use Rattle.som_sources.specs.declared.source.Source.{Source}
use Rattle.som_compile.specs.Compiling.{Compiles}
use Rattle.som_cmd_steps.specs.declared.stop.Refusal.{Refusal}
use Rattle.som_cmd_steps.specs.declared.stop.CommandStop.{CommandStop}
use Rattle.som_cmd_steps.specs.Refusing.{EndsIn, HasStatusIn, RefusesAs}
use Rattle.som_cmd_steps.specs.declared.stop.CommandStop.TheVariants as stops
use Rattle.som_cmd_sources.specs.declared.client_parts.ClientParts.{ClientParts}
use Rattle.som_cmd_sources.specs.Statuses.{client_statuses, library_statuses}
use Rattle.som_cmd_sources.specs.Compiled.{Compiled}
use Rattle.som_cmd_sources.proofs.TextRefusals.{compiled_in, in_client}
use Rattle.som_cmd_build.specs.declared.putting.PutEnd.{PutEnd}
use Rattle.som_cmd_build.specs.declared.putting.PutEnd.TheVariants as ends
use Rattle.som_cmd_build.specs.ClientAnswer.{CompilesParts}
use Rattle.som_cmd_build.specs.PutSteps.{outcome_of}

-- ---- what is compiled

pub image_refused_in : (ss : List Source) (stop : CommandStop) → Compiled (Compiles ss) (Err stop) → RefusesAs {A = PutEnd} (HasStatusIn library_statuses) (Err stop)
image_refused_in ss stop made = compiled_in (Compiles ss) stop made

pub client_refused_in : (parts : ClientParts) (stop : CommandStop) → Compiled (CompilesParts parts) (Err stop) → RefusesAs {A = PutEnd} (HasStatusIn client_statuses) (Err stop)
client_refused_in parts stop made = in_client stop (compiled_in (CompilesParts parts) stop made)

-- ---- what is put

pub none_in : (IsOne : Refusal → Type 0) (result : Result PutEnd CommandStop) → RefusesAs (λ r. ⊥) result → RefusesAs IsOne result
none_in IsOne (Ok end) none = tt
none_in IsOne (Err (stops.Refused r)) none = absurd none
none_in IsOne (Err (stops.StoreFailed line)) none = tt
none_in IsOne (Err stops.NoMemory) none = tt

pub put_refused_in : (result : Result PutEnd CommandStop) → RefusesAs (λ r. ⊥) result → RefusesAs (HasStatusIn library_statuses) result
put_refused_in result none = none_in (HasStatusIn library_statuses) result none

pub client_put_refused_in : (result : Result PutEnd CommandStop) → RefusesAs (λ r. ⊥) result → RefusesAs (HasStatusIn client_statuses) result
client_put_refused_in result none = none_in (HasStatusIn client_statuses) result none

-- ---- what is told

pub library_ends_in : (result : Result PutEnd CommandStop) → RefusesAs (HasStatusIn library_statuses) result → EndsIn library_statuses (outcome_of result)
library_ends_in (Ok ends.Done) is = inl refl
library_ends_in (Ok (ends.Failed put)) is = tt
library_ends_in (Err stop) is = is

pub client_ends_in : (result : Result PutEnd CommandStop) → RefusesAs (HasStatusIn client_statuses) result → EndsIn client_statuses (outcome_of result)
client_ends_in (Ok ends.Done) is = inr (inl refl)
client_ends_in (Ok (ends.Failed put)) is = tt
client_ends_in (Err stop) is = is
