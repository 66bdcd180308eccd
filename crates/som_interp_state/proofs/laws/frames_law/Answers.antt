use Rattle.som_interp_state.proofs.Later.{frames_later, own_frames_later}
use Rattle.som_interp_state.proofs.laws.frames_law.Goals as goal

pub returns-clause-same : goal.returns-clause-same
returns-clause-same c k xs ys cs ds os f own = frames_later k xs ys cs ds os f own

pub returns-clause-own : goal.returns-clause-own
returns-clause-own c k xs ys cs ds os new f keeps own = own_frames_later k xs ys cs ds os new keeps f own
