-- What is read of an image and breaks no rule.
use Rattle.std.proofs.Common.{◌≡◌, ℕ, List, Option, Result, Ok, Err, sym, ap, subst, ◌∙◌}
use Rattle.som_model.specs.declared.program.Release.{Release}
use Rattle.som_model.specs.declared.program.ClientProgram.{ClientProgram}
use Rattle.som_model.specs.Rules.{RuleBreach}
use Rattle.som_model.specs.Conforming.{program_breach, release_breach}
use Rattle.som_model.specs.Steps.{◌>>=◌}
use Rattle.som_image_fields.specs.declared.fault.ImageFault.{ImageFault}
use Rattle.som_cmd_steps.specs.declared.stop.Refusal.{Refusal}
use Rattle.som_cmd_steps.specs.declared.stop.CommandStop.{CommandStop}
use Rattle.som_cmd_steps.specs.ImageSteps.{read_or, kept_or, client_in, library_in, release_in, rules_kept, sound, sound_release, sound_program}
use Rattle.som_cmd_steps.specs.Steps.{Stops, Follows}
use Rattle.som_cmd_steps.specs.declared.stop.CommandStop.TheVariants as stops

-- ---- one step after another

pub stops_first : {A B : Type 0} (stop : CommandStop) (s : Result A Refusal) (f : A → Result B Refusal) → Stops stop s → Stops stop (s >>= f)
stops_first (stops.Refused r) s f e = ap (λ x. x >>= f) e
stops_first (stops.StoreFailed line) s f e = tt
stops_first stops.NoMemory s f e = tt

module _ {A : Type 0} (breach : A → Option RuleBreach) (name : List ℕ) (read : Result A ImageFault) where
  abbrev ruled : A → Result A Refusal
  ruled x = kept_or name (breach x) >>= λ kept. Ok x

  unread : (stop : CommandStop) → Stops stop (read_or name read) → Stops stop (sound breach name read)
  unread stop f = stops_first stop (read_or name read) ruled f

  after_read : (x : A) → read_or name read ≡ Ok x → ruled x ≡ sound breach name read
  after_read x f = ap (λ (y : Result A Refusal). y >>= ruled) (sym f)

  broken_by : (x : A) (stop : CommandStop) → read_or name read ≡ Ok x → Stops stop (kept_or name (breach x)) → Stops stop (sound breach name read)
  broken_by x stop f g = subst (Stops stop) (after_read x f) (stops_first stop (kept_or name (breach x)) (λ kept. Ok x) g)

  sound_by : (x : A) (kept : Unit {0}) → read_or name read ≡ Ok x → kept_or name (breach x) ≡ Ok kept → sound breach name read ≡ Ok x
  sound_by x kept f g = sym (after_read x f) ∙ ap (λ (y : Result (Unit {0}) Refusal). y >>= λ k. Ok x) g

-- a library image can't be read, breaks a rule, or does neither
pub unread_first : (n b : List ℕ) (stop : CommandStop) → Follows {A = Release} (Err stop) (release_in n b) → Follows {A = Release} (Err stop) (sound_release n b)
unread_first n b stop f = unread release_breach n (library_in b) stop f

pub broken_first : (n b : List ℕ) (r : Release) (stop : CommandStop) → Follows (Ok r) (release_in n b) → Follows {A = Unit {0}} (Err stop) (rules_kept n r) → Follows {A = Release} (Err stop) (sound_release n b)
broken_first n b r stop f g = broken_by release_breach n (library_in b) r stop f g

pub is_sound : (n b : List ℕ) (r : Release) (kept : Unit {0}) → Follows (Ok r) (release_in n b) → Follows (Ok kept) (rules_kept n r) → Follows (Ok r) (sound_release n b)
is_sound n b r kept f g = sound_by release_breach n (library_in b) r kept f g

-- and a client image
pub program_unread : (n b : List ℕ) (stop : CommandStop) → Follows {A = ClientProgram} (Err stop) (read_or n (client_in b)) → Follows {A = ClientProgram} (Err stop) (sound_program n b)
program_unread n b stop f = unread program_breach n (client_in b) stop f

pub program_broken : (n b : List ℕ) (p : ClientProgram) (stop : CommandStop) → Follows (Ok p) (read_or n (client_in b)) → Follows {A = Unit {0}} (Err stop) (kept_or n (program_breach p))
    → Follows {A = ClientProgram} (Err stop) (sound_program n b)
program_broken n b p stop f g = broken_by program_breach n (client_in b) p stop f g

pub program_sound : (n b : List ℕ) (p : ClientProgram) (kept : Unit {0}) → Follows (Ok p) (read_or n (client_in b)) → Follows (Ok kept) (kept_or n (program_breach p)) → Follows (Ok p) (sound_program n b)
program_sound n b p kept f g = sound_by program_breach n (client_in b) p kept f g
