-- Texts that are printed one after the other.
use Rattle.std.proofs.Common.{◌≡◌, ◌≢◌, ℕ, ◌≤◌, List, ◌++◌, Option, refl, sym, subst, arith}
use Rattle.som_io.specs.Line.{SendHasCause, SendsLine}
use Rattle.som_io.specs.Outside.{Rose, ShowsAll, ShowsFront}
use Rattle.som_io.specs.declared.line.Sending.{Sending}
use Rattle.som_io.specs.declared.line.Sending.TheVariants as sending
use Rattle.som_io.proofs.ShownLaws.{front_all, front_both, front_longer, front_none, rose_earlier, shows_both}
use Rattle.som_cmd_generate.specs.Printing.{Prints, sent_status}

-- ---- calls

-- one that prints after a text that was printed
pub prints_after : (a b : List ℕ) (end before mid now : ℕ) (old told new : Option (List ℕ)) (status : ℕ) → ShowsAll old told a → before ≤ mid → Prints b end mid now told new status → Prints (a ++ b) end before now old new status
prints_after a b end before mid now old told new status first le p = record {
  ended = p.ended;
  whole = λ not8 not10. shows_both old told new a b first (p.whole not8 not10);
  front = front_both old told new a b first p.front;
  cause = λ e. rose_earlier before mid now le (p.cause e);
}

-- one whose sink failed, or whose memory ran out, before all of the first text was printed
pub failed_first : (a b : List ℕ) (end before now : ℕ) (old new : Option (List ℕ)) → ShowsFront old new a → Rose before now → Prints (a ++ b) end before now old new 8
failed_first a b end before now old new f rose = record {
  ended = λ not8 not10. absurd (not8 refl);
  whole = λ not8 not10. absurd (not8 refl);
  front = front_longer old new a b f;
  cause = λ e. rose;
}

ten_is_no_eight : {A : Type 0} → ◌≡◌ {A = ℕ} 10 8 → A
ten_is_no_eight e = absurd (omega (arith, e))

pub starved_first : (a b : List ℕ) (end before now : ℕ) (old new : Option (List ℕ)) → ShowsFront old new a → Prints (a ++ b) end before now old new 10
starved_first a b end before now old new f = record {
  ended = λ not8 not10. absurd (not10 refl);
  whole = λ not8 not10. absurd (not10 refl);
  front = front_longer old new a b f;
  cause = λ e. ten_is_no_eight e;
}

-- nothing was printed for want of memory
pub none_printed : (text : List ℕ) (end before now : ℕ) (old new : Option (List ℕ)) → new ≡ old → Prints text end before now old new 10
none_printed text end before now old new same = record {
  ended = λ not8 not10. absurd (not10 refl);
  whole = λ not8 not10. absurd (not10 refl);
  front = subst (λ (x : Option (List ℕ)). ShowsFront old x text) (sym same) (front_none old text);
  cause = λ e. ten_is_no_eight e;
}

-- ---- one line

sent_prints : (line : List ℕ) (before now : ℕ) (old new : Option (List ℕ)) (sent : Sending) → SendsLine old new line sent → SendHasCause before now sent → Prints line 0 before now old new (sent_status sent)
sent_prints line before now old new sending.Whole all cause = record {
  ended = λ not8 not10. refl;
  whole = λ not8 not10. all;
  front = front_all old new line all;
  cause = λ e. absurd (omega (arith, e));
}
sent_prints line before now old new sending.Failed front cause = record {
  ended = λ not8 not10. absurd (not8 refl);
  whole = λ not8 not10. absurd (not8 refl);
  front = front;
  cause = λ e. cause;
}
sent_prints line before now old new sending.NoMemory front cause = record {
  ended = λ not8 not10. absurd (not10 refl);
  whole = λ not8 not10. absurd (not10 refl);
  front = front;
  cause = λ e. ten_is_no_eight e;
}

pub line_prints : (line : List ℕ) (before now : ℕ) (old new : Option (List ℕ)) (sent : Sending) (status : ℕ) → SendsLine old new line sent → SendHasCause before now sent → status ≡ sent_status sent → Prints line 0 before now old new status
line_prints line before now old new sent status sends cause is = subst (Prints line 0 before now old new) (sym is) (sent_prints line before now old new sent sends cause)

-- where the sink didn't fail, its status is another
pub line_calm : (sent : Sending) (status : ℕ) → status ≡ sent_status sent → sent ≢ sending.Failed → status ≢ 8
line_calm sending.Whole status is fine e = absurd (omega (arith, is, e))
line_calm sending.Failed status is fine e = fine refl
line_calm sending.NoMemory status is fine e = absurd (omega (arith, is, e))
