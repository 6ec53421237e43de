-- A sound clock keeps a well-formed machine well formed.
use Rattle.lent.proofs.Laws.{by_eq}
use Rattle.sh_tones.proofs.Kept.{channel1_keeps, channel2_keeps}
use Rattle.sh_state.specs.State.{State, state}
use Rattle.sh_rules.proofs.Fits.{Fit, channels_set_fits}
use Rattle.sh_sound.specs.Sound.{channels_of, sound_of}

pub sound_keeps : {s : State} → Fit s → Fit (state (sound_of s.machine s.memory) s.memory)
unfolding sound_of channels_of
sound_keeps {s} f =
    let c = f.machine.channels in
    by_eq (λ m. Fit (state m s.memory)) s.machine.mode 2 _ _ (λ e. f)
    (λ n. record { memory = f.memory; machine = channels_set_fits f.machine _ (record { first = channel1_keeps c.first _ _ _; second = channel2_keeps c.second _ _ _ _ }) })
