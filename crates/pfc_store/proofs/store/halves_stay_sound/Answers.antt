use Rattle.pfc_store.proofs.Sound.{sound_of}
use Rattle.pfc_store.proofs.store.halves_stay_sound.Goals as goal

pub returns : goal.returns
returns c file size k durable claimed due disk info s t nested solid within image main is_image is_main = sound_of file size k durable claimed due nested image main (solid image is_image) (within main is_main)
