use Rattle.std.proofs.Common.{sym}
use Rattle.som_model.specs.Kernel.{som_object, som_class}
use Rattle.som_model.proofs.KeyLaws.{exact_keys}
use Rattle.som_model.proofs.NamedLaws.{same_named}
use Rattle.som_compat.proofs.kernel.is_one_type.Goals as goal

pub returns-in-Object-Object : goal.returns-in-Object-Object
returns-in-Object-Object c = rw (c.in-Object-Object.is-0, c.in-Object-Object.is-1) (sym (exact_keys.one som_object))

pub returns-in-Class-Class : goal.returns-in-Class-Class
returns-in-Class-Class c = rw (c.in-Class-Class.is-0, c.in-Class-Class.is-1) (sym (exact_keys.one som_class))

pub returns-in-Object-Class : goal.returns-in-Object-Class
returns-in-Object-Class c = rw (c.in-Object-Class.is-0, c.in-Object-Class.is-1) (simp same_named)

pub returns-in-Class-Object : goal.returns-in-Class-Object
returns-in-Class-Object c = rw (c.in-Class-Object.is-0, c.in-Class-Object.is-1) (simp same_named)
