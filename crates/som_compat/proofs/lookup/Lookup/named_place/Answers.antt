use Rattle.som_compat.proofs.Placed.{kernel_found, library_found, library_missing, other_module}
use Rattle.som_compat.proofs.lookup.Lookup.named_place.Goals as goal

pub returns-in-Kernel-clause-finds : goal.returns-in-Kernel-clause-finds
returns-in-Kernel-clause-finds c = rw c.in-Kernel.is (kernel_found c.args.self.now.faces.now c.args.name.now c.kernel_place.result c.kernel_place.ensures)

pub returns-in-Some-clause-finds : goal.returns-in-Some-clause-finds
returns-in-Some-clause-finds c = rw c.in-Library.is (library_found c.args.self.now.faces.now c.args.name.now c.in-Some.place c.in-Some.ensures.finds)

pub returns-in-None-clause-finds : goal.returns-in-None-clause-finds
returns-in-None-clause-finds c = rw c.in-Library.is (library_missing c.args.self.now.faces.now c.args.name.now c.in-None.ensures.finds)

pub returns-in-Upper-clause-finds : goal.returns-in-Upper-clause-finds
returns-in-Upper-clause-finds c = other_module c.args.self.now.faces.now c.args.home c.args.name.now (λ e. let f = c.in-Upper.is in cc) (λ e. let f = c.in-Upper.is in cc)

pub returns-in-Client-clause-finds : goal.returns-in-Client-clause-finds
returns-in-Client-clause-finds c = other_module c.args.self.now.faces.now c.args.home c.args.name.now (λ e. let f = c.in-Client.is in cc) (λ e. let f = c.in-Client.is in cc)
