-- What the code's references to present objects point to.
use Rattle.hx_soak.specs.declared.objects.Present.{Present}
use Rattle.hx_soak.specs.Tallying.{KeyObject}

abbrev pub key_object : Present → KeyObject
key_object p = record { key = p.key.now; object = p.object.now }
