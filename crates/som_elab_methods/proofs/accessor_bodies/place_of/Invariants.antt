use Rattle.std.proofs.Common.{◌≡◌, ◌+◌, drop, map}
use Rattle.som_model.specs.declared.class.Variable.{Variable}
use Rattle.som_elab_methods.specs.Accessors.{place_of}
use Rattle.som_elab_methods.proofs.accessor_bodies.place_of.Given as goal

abbrev pub invariant-loop-variable : goal.invariant-loop-variable
invariant-loop-variable l = record {
  place : l.place ≡ l.variable-index;
  found : l.place + place_of (map (λ (v : Variable). v.name) (drop l.variable-index l.variables)) l.name ≡ place_of (map (λ (v : Variable). v.name) l.variables) l.name;
}
