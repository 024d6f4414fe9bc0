-- From memory to memory: demands 2 and 3, said of what the calls leave in the memory lent to them and of nothing else. The record is what stands
-- in the coder's output, its first answer'[2] bytes; what arrives of it is made from these bytes; and what is promised is said of the output, the
-- answer and the workspace that decoding leaves. Vocabulary has the words: Selected, Recorded, Serves, Decodes.
use Rattle.std.specs.Prelude.{refl}
use Rattle.rules.proofs.Laws.Bytes.Room.{coding_accepts}
use Rattle.rules.proofs.Laws.Calls.Arrived.{earlier_count}
use Rattle.rules.proofs.Laws.Calls.Memory.{afs_code_recorded, afs_code_accepts, afs_decode_prints, recorded, afs_serve_selects, afs_serve_accepts}
use Rattle.rules.proofs.Laws.Calls.Memory.{selected_again, afs_decode_again, afs_decode_whole, coding_recorded, coding_wrote, decoding_decodes}
use Rattle.rules.proofs.Laws.Calls.Memory.{serving_serves, serving_wrote, serving_accepts, decoding_again, decoding_whole}
use Rattle.rules.specs.Promises.Memory.{FromMemoryToMemory, FromRoutineToRoutine}

pub from_memory_to_memory : FromMemoryToMemory
from_memory_to_memory =
    record {
      coded = λ c. afs_code_recorded c;
      codes = λ c k room enough places. afs_code_accepts c k room enough places;
      decoded = λ c x d sizes places. afs_decode_prints (afs_code_recorded c).0 x d sizes places;
      earlier = λ c. recorded c (earlier_count c) refl;
      stored = λ w x d sizes places. afs_decode_prints w x d sizes places;
      served = λ c x v. afs_serve_selects v (afs_code_recorded c).0 x;
      serves = λ c x v a b few room places. afs_serve_accepts v (afs_code_recorded c).0 x a b few room places;
      selected = λ c x y. selected_again (afs_code_recorded c).0 x y;
      served_decoded = λ c x v y d sizes places.
          let w = (afs_code_recorded c).0 in afs_decode_again w (afs_serve_selects v w x).0.again y d sizes places;
      stored_whole = λ w d sizes places. afs_decode_whole w d sizes places;
      whole = λ c d sizes places. afs_decode_whole (afs_code_recorded c).0 d sizes places;
    }

pub from_routine_to_routine : FromRoutineToRoutine
from_routine_to_routine =
    record {
      coded = λ c e. (coding_recorded c e, (coding_wrote c e).1);
      codes = λ c k room enough. coding_accepts c k room enough;
      decoded = λ c e x d sizes. decoding_decodes (coding_recorded c e) x d sizes;
      served = λ c e x v a. (serving_serves v a (coding_recorded c e) x, (serving_wrote v a).1);
      serves = λ c e x v a b few room. serving_accepts v (coding_recorded c e) x a b few room;
      selected = λ c e x y. selected_again (coding_recorded c e) x y;
      served_decoded = λ c e x v a y d sizes. let w = coding_recorded c e in decoding_again w (serving_serves v a w x).again y d sizes;
      whole = λ c e d sizes. decoding_whole (coding_recorded c e) d sizes;
    }
