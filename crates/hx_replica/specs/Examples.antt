-- What the tests are of: a space of one region on one server, and inputs there.
use Rattle.std.specs.Prelude.{ℕ, [], ◌∷◌}
use Rattle.hx_model.specs.Types.{Coordinator, Deliver, Input, Message, Put, ServerId, Session, Space}
use Rattle.hx_types.specs.declared.messages.Message.TheVariants.{Ask, Call}

abbrev pub small : Space
small =
    record {
      name = 115 ∷ [];
      key_name = 107 ∷ [];
      key_parts = 1;
      attributes = [];
      subspaces = [];
      servers = 1;
      tolerate = 0;
    }

abbrev pub first : ServerId
first = record { 0 = 1 }

abbrev pub from_coordinator : Message → Input
from_coordinator m = Deliver (record { entry = 1; place = 0 }) Coordinator m

-- session 1 searches for every object
abbrev pub ask_of : Input
ask_of = Deliver (record { entry = 1; place = 0 }) (Session (record { 0 = 1 })) (Ask (record { 0 = 1 }) 1 (record { 0 = 0 }) [])

-- session 1 puts an object of defaults for a key
abbrev pub put_of : ℕ → Input
put_of epoch =
    Deliver (record { entry = 1; place = 0 }) (Session (record { 0 = 1 })) (Call (record { 0 = epoch }) 1 (Put (97 ∷ []) []))
