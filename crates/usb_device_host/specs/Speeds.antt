-- The codes of speeds, as Linux gives them to the request USBDEVFS_GET_SPEED (`enum usb_device_speed` of linux/usb/ch9.h).
use Rattle.std.specs.Prelude.{ℕ, ◌==◌, Option, Some, None, if◌then◌else◌}
use Rattle.usb_enum_sysfs.specs.declared.speed.Speed.{Speed}
use Rattle.usb_enum_sysfs.specs.declared.speed.Speed.TheVariants.{Low, Full, High, Super, SuperPlus}

-- 0 is unknown, and 4 is wireless USB
unfoldable pub speed_of_code : ℕ → Option Speed
speed_of_code code =
    if code == 1 then Some Low
    else if code == 2 then Some Full
    else if code == 3 then Some High
    else if code == 5 then Some Super
    else if code == 6 then Some SuperPlus
    else None
