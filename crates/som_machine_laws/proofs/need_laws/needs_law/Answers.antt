use Rattle.som_machine_laws.proofs.Within.{zero_in}
use Rattle.som_machine_laws.proofs.Values.{class_in}
use Rattle.som_machine_laws.proofs.NeededSteps.{next_kept}
use Rattle.som_machine_laws.proofs.More.{frames_more, heap_more}
use Rattle.som_machine_laws.proofs.need_laws.needs_law.Goals as goal

pub returns-clause-start : goal.returns-clause-start
returns-clause-start c made levels main = record { now = record { here = record { me = tt; place = tt }; zero_value = tt; stack = tt; locals = tt }; waiting = tt }

pub returns-clause-nothing : goal.returns-clause-nothing
returns-clause-nothing c w made = record { objects = tt; statics = λ x k n. zero_in made (w.variable k n) }

pub returns-clause-frames : goal.returns-clause-frames
returns-clause-frames c w tests made fs gs s t closed f h e has = ((next_kept w made closed tests fs.now fs.waiting f.now f.waiting).by s _ t e has h).1

pub returns-clause-heap : goal.returns-clause-heap
returns-clause-heap c w tests made fs gs s t closed f h e has = ((next_kept w made closed tests fs.now fs.waiting f.now f.waiting).by s _ t e has h).0

pub returns-clause-class : goal.returns-clause-class
returns-clause-class c w made h r closed i p = class_in made w closed h r i p

pub returns-clause-more : goal.returns-clause-more
returns-clause-more c made more fs grows p = frames_more made more grows fs p

pub returns-clause-more_heap : goal.returns-clause-more_heap
returns-clause-more_heap c made more h grows p = heap_more made more grows h p
