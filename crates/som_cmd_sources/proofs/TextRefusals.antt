-- What is refused of texts that are got, and of what they are compiled to, has a status of `library` and `client`, whatever the store tells.
use Rattle.std.proofs.Common.{◌≡◌, ℕ, List, Result, Err, refl, sym, subst, inl, inr}
use Rattle.som_model.specs.declared.program.Release.{Release}
use Rattle.som_model.specs.Conforming.{release_breach}
use Rattle.som_sources.specs.declared.fault.TextFault.{TextFault}
use Rattle.som_sources.specs.declared.source.Source.{Source}
use Rattle.som_sources.specs.declared.fault.TextFault.TheVariants as texts
use Rattle.som_cmd_steps.specs.declared.stop.Refusal.{Refusal}
use Rattle.som_cmd_steps.specs.declared.stop.CommandStop.{CommandStop}
use Rattle.som_cmd_steps.specs.ImageSteps.{library_in, sound_release}
use Rattle.som_cmd_steps.specs.Lines.{absent}
use Rattle.som_cmd_steps.specs.Refusing.{HasStatusIn, RefusesAs, StopRefusesAs}
use Rattle.som_cmd_steps.specs.Steps.{Follows}
use Rattle.som_cmd_steps.specs.declared.stop.CommandStop.TheVariants as stops
use Rattle.som_cmd_steps.proofs.Statuses.{absent_in, sound_only, stops_only}
use Rattle.som_cmd_sources.specs.declared.client_parts.ClientParts.{ClientParts}
use Rattle.som_cmd_sources.specs.Statuses.{client_statuses, library_statuses}
use Rattle.som_cmd_sources.specs.Compiled.{Compiled}
use Rattle.som_cmd_sources.specs.Texts.{text_refused, too_many}

-- ---- what is got

-- a text isn't there
pub text_absent_in : (name : List ℕ) (stop : CommandStop) → RefusesAs {A = List ℕ} (λ r. r ≡ absent name) (Err stop) → RefusesAs {A = Source} (HasStatusIn library_statuses) (Err stop)
text_absent_in name stop is = absent_in library_statuses (inr (inr (inl refl))) name stop is

-- texts have too many bytes
pub too_many_in : (quantity : List ℕ) (number : ℕ) (r : Refusal) → r ≡ too_many quantity number → RefusesAs {A = Source} (HasStatusIn library_statuses) (Err (stops.Refused r))
too_many_in quantity number r is = subst (HasStatusIn library_statuses) (sym is) (inr (inr (inr (inl refl))))

-- the library isn't there
pub library_absent_in : (name : List ℕ) (stop : CommandStop) → RefusesAs {A = List ℕ} (λ r. r ≡ absent name) (Err stop) → RefusesAs {A = ClientParts} (HasStatusIn client_statuses) (Err stop)
library_absent_in name stop is = absent_in client_statuses (inr (inr (inr (inl refl)))) name stop is

-- what is refused of texts is refused of a client
pub in_client : (stop : CommandStop) → StopRefusesAs (HasStatusIn library_statuses) stop → StopRefusesAs (HasStatusIn client_statuses) stop
in_client (stops.Refused r) is = inr is
in_client (stops.StoreFailed line) is = tt
in_client stops.NoMemory is = tt

pub texts_refused_in : (stop : CommandStop) → RefusesAs {A = List Source} (HasStatusIn library_statuses) (Err stop) → RefusesAs {A = ClientParts} (HasStatusIn client_statuses) (Err stop)
texts_refused_in stop is = in_client stop is

-- the library is no image, or breaks a rule
pub library_refused_in : (name bytes : List ℕ) (stop : CommandStop) → Follows {A = Release} (Err stop) (sound_release name bytes) → RefusesAs {A = ClientParts} (HasStatusIn client_statuses) (Err stop)
library_refused_in name bytes stop f =
    stops_only (HasStatusIn client_statuses) (sound_release name bytes) (sound_only client_statuses (inl refl) release_breach name (library_in bytes)) stop f

-- ---- what is compiled

-- a fault of texts
fault_in : (w : TextFault) → HasStatusIn library_statuses (text_refused w)
fault_in (texts.Unread fault name place) = inr (inl refl)
fault_in (texts.Rule b) = inr (inl refl)
fault_in (texts.Limit quantity number) = inr (inr (inr (inl refl)))

pub compiled_in : (Told : Result (List ℕ) TextFault → Type 0) (stop : CommandStop) → Compiled Told (Err stop) → StopRefusesAs (HasStatusIn library_statuses) stop
compiled_in Told (stops.Refused r) made = subst (HasStatusIn library_statuses) (sym made.2) (fault_in made.0)
compiled_in Told (stops.StoreFailed line) made = tt
compiled_in Told stops.NoMemory made = tt
