use Rattle.std.proofs.Common.{◌≡◌, false, subst, sym}
use Rattle.som_model.specs.declared.key.ClassKey.TheVariants as keys
use Rattle.som_meta.specs.Numbering.{Numbering, key_at}
use Rattle.som_class_table.specs.Loaded.{AreLoaded}
use Rattle.som_interp_state.specs.Asked.{is_proxy}
use Rattle.som_classmgr.proofs.Asking.{proxy_no, proxy_yes}
use Rattle.som_classmgr.proofs.runtime.KernelLinkedRuntime.is_proxy.Goals as goal

pub returns-in-Proxy : goal.returns-in-Proxy
returns-in-Proxy c =
    let proxy = c.kind.ensures.proxy c.in-Proxy.is in
    proxy_yes (key_at c.args.self.now.classes c.args.class) proxy.of (subst (λ (k : Numbering). key_at k c.args.class ≡ keys.Proxy proxy.of) c.classes.ensures.value proxy.key)

pub returns-in_default : goal.returns-in_default
returns-in_default c =
    let value = c.classes.ensures.value in
    subst (λ (k : Numbering). false ≡ is_proxy (key_at k c.args.class)) value
    (proxy_no c.classes.result.now (subst AreLoaded (sym value) c.classes.ensures.loaded) c.args.class c.kind.result c.in_default.not-Proxy c.kind.ensures.declared.0 c.kind.ensures.derived)
