-- Where a body runs, by numbers and by names.
use Rattle.som_model.specs.ClassNames.{class_name}
use Rattle.som_semantics.specs.State as state
use Rattle.som_meta.specs.Numbering.{Numbering, key_at, method_at, IsNumbered, IsToken}
use Rattle.som_trace.specs.declared.running.Running.{Running}
use Rattle.som_trace.specs.declared.running.Running.TheVariants as runnings
use Rattle.som_trace.specs.declared.running.Place.{Place}
use Rattle.som_trace.specs.declared.running.Place.TheVariants as places

-- the place of the meaning
abbrev pub place_of : Numbering → Place → state.Place
place_of k places.Main = state.InMain
place_of k (places.Body class method) = state.InBody (key_at k class) (method_at k method).name

-- the class and the token of a body are the hierarchy's
abbrev pub IsPlace : Numbering → Place → Type 0
IsPlace k places.Main = Unit {0}
IsPlace k (places.Body class method) = IsNumbered k class × IsToken k method

-- a place by the names of the class whose body runs, and of its method
abbrev pub running_in : state.Place → Running
running_in state.InMain = runnings.Main
running_in (state.InBody k name) = runnings.Body (class_name k) name
